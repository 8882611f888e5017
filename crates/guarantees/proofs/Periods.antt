-- The reason of each reply to a period, and that the length told is the one that the register, the profile and the record show.
-- Assumes nothing.
use mathlib.Core.Path.{◌≡◌, refl, sym, ap, ◌∙◌, subst}
use mathlib.Core.Logic.{◌⊎◌, inl, inr}
use mathlib.Core.List.{List, [], ◌++◌}
use Prim.Native.Nat.{ℕ, zero, suc, ◌+◌, ◌*◌, ◌-◌, ◌/◌, ◌%◌, ◌^◌, ◌≤◌, ◌<◌}
use native.Mathlib.Nat.{mod-lt, mod-eq_of_lt, add-mul-mod_self_right, mul-le-mul_right, one-le-pow}
use native.Mathlib.Decide.{dec_lt, ℕ_discrete}
use native.Mathlib.Omega.{arith}
use lib.ListN.{length, replicate, length-replicate, length-append, get_or-append}
use lib.Seq.{get_or-append-add}
use borrow.Author.Tests.{eq-eqb}
use Rattle.std.specs.Prelude.{Ok, Err}
use Rattle.lists.specs.Table.{at}
use Rattle.lists.specs.Search.{first}
use Rattle.lists.proofs.Search.{lt_or_le}
use Rattle.lists.proofs.Table.{length_tabulate}
use Rattle.cells.specs.Cell.{cell_at, cells_from}
use Rattle.cells.proofs.Laws.{at_cells}
use Rattle.residue.specs.Factors.{is_prime, least_divisor}
use Rattle.recurrence.specs.Least.{Least}
use Rattle.recurrence.specs.Register as T
use Rattle.recurrence.proofs.Length.{least_unique}
use Rattle.recurrence.proofs.Register.{register_right}
use Rattle.sequence.specs.declared.Refusal.TheVariants as R
use Rattle.sequence.specs.declared.Uniqueness.{Uniqueness}
use Rattle.sequence.specs.declared.Uniqueness.TheVariants.{Sole}
use Rattle.sequence.specs.Limits.{max_terms, a_bytes, b_bytes, profile_bytes}
use Rattle.sequence.specs.Rules.{first_large, open_of, check_of}
use Rattle.sequence.specs.Report.{uniqueness_of, report_of}
use Rattle.sequence.proofs.OnlyOne.{said_sole}
use Rattle.sequence.proofs.Query.{query_modulus, query_passes}
use Rattle.column.specs.Rules.{terms_in}
use Rattle.catalogue.specs.Rules.{record_bytes}
use Rattle.period.specs.Halving.{halving}
use Rattle.period.specs.Rules.{exponent, digits_in, measured_answer, period_length_of, period_length_answer, Measured}
use Rattle.period.proofs.Laws as L
use Rattle.period.proofs.Answers.{period_told}
use Rattle.codes.specs.Codes.{length_code_of}
use Rattle.codes.proofs.Laws.{length_valued, length_refused}
use Rattle.guarantees.specs.Calls.{Call, push_all, after_all, takes, taken_from, taken}
use Rattle.guarantees.specs.Claims.{ShownBy, Demand3, terms_of, profile_cell, length_made}
use Rattle.guarantees.specs.Periods.{IsPeriod, Digits, Reason, odd, other, digit, told, Repeats, WholePeriods, WrittenQuery, DeskLength, Measures, BinaryPeriods}
use Rattle.guarantees.proofs.Columns.{each_whole}
use Rattle.guarantees.proofs.Demand.{demand}
use Rattle.guarantees.proofs.Shown.{count_is, made_least, query_terms}
use Rattle.sequence.specs.Answers.{of_length}

-- ---- whole periods, lent as columns

module _ (cells : List ℕ) (n : ℕ) (size : length cells ≡ 2 * n) (small : Digits cells n) (some : zero < n) where
  -- p periods are taken
  record Copies (p : ℕ) (ts : List ℕ) : Type 0 where
    many : length ts ≡ p * n
    each : (j : ℕ) → j < length ts → at ts j ≡ cell_at cells (j % n)

  half : length cells / 2 ≡ n
  half = omega arith

  long : length (terms_in cells) ≡ n
  long = length_tabulate (length cells / 2) (λ i. cell_at cells (0 + i)) ∙ half

  term : (j : ℕ) → j < n → at (terms_in cells) j ≡ cell_at cells j
  term j h = at_cells cells (length cells / 2) j (omega (arith, half))

  column : (ts : List ℕ) → length ts + n ≤ max_terms → takes 2 ts (push_all cells) ≡ ts ++ terms_in cells
  column ts room =
      rw (eq-eqb (length cells % 2) 0 (omega arith))
      (each_whole 2 (terms_in cells) ts (λ j h. subst (λ (x : ℕ). x < 2) (sym (term j (omega (arith, long)))) (small j (omega (arith, long)))) (omega (arith, long)))

  one_more : (p : ℕ) (ts : List ℕ) → Copies p ts → Copies (suc p) (ts ++ terms_in cells)
  one_more p ts c = record { many = total; each = λ j h. go j h (lt_or_le j (length ts)) }
    where
      total : length (ts ++ terms_in cells) ≡ suc p * n
      total = omega (arith, length-append ts (terms_in cells), long, c.many)

      go : (j : ℕ) → j < length (ts ++ terms_in cells) → (j < length ts) ⊎ (length ts ≤ j) → at (ts ++ terms_in cells) j ≡ cell_at cells (j % n)
      go j h (inl l) = get_or-append ts (terms_in cells) 0 j l ∙ c.each j l
      go j h (inr l) =
          let r : ℕ = j - length ts in
          let e : length ts + r ≡ j = omega arith in
          let b : r < n = omega (arith, total, c.many) in
          ap (at (ts ++ terms_in cells)) (sym e) ∙ get_or-append-add ts (terms_in cells) r 0 ∙ term r b
          ∙ ap (cell_at cells) (sym (mod-eq_of_lt b) ∙ sym (add-mul-mod_self_right r p n) ∙ ap (λ (x : ℕ). x % n) (let f : r + p * n ≡ j = omega (arith, c.many) in f))

  copies : (q p : ℕ) (ts : List ℕ) → Copies p ts → (p + q) * n ≤ max_terms → Copies (p + q) (taken_from 2 ts (replicate q (push_all cells)))
  unfolding taken_from
  copies zero p ts c h = subst (λ (x : ℕ). Copies x ts) (let e : p ≡ p + zero = omega arith in e) c
  copies (suc q) p ts c h =
      let room : length ts + n ≤ max_terms = omega (arith, c.many) in
      subst (λ (x : ℕ). Copies x (taken_from 2 (takes 2 ts (push_all cells)) (replicate q (push_all cells)))) (let e : suc p + q ≡ p + suc q = omega arith in e)
      (copies q (suc p) (takes 2 ts (push_all cells)) (subst (Copies (suc p)) (sym (column ts room)) (one_more p ts c)) (omega arith))

  whole_periods : (q : ℕ) → 2 ≤ q → q * n ≤ max_terms → WholePeriods cells n q
  whole_periods q two fits =
      let c = copies q zero [] (record { many = omega arith; each = λ j h. absurd (omega arith) }) (omega arith) in
      record {
        size = omega (arith, c.many);
        repeats = record { twice = omega (arith, c.many, mul-le-mul_right n two); each = c.each };
      }

-- ---- the length that is told

-- the period as the laws of the call have it
law_period : {cells : List ℕ} {n w : ℕ} → IsPeriod cells n w → L.Sized cells w
law_period p = record { below = p.below; size = omega (arith, p.size, p.power) }

module _ (cells : List ℕ) (n w : ℕ) (p : IsPeriod cells n w) (small : Digits cells n) where
  abbrev l : ℕ
  l = halving w (cells_from cells 0 n)

  at_power : (f : ℕ → Type 0) → f (2 ^ w) → f n
  at_power f = subst f (sym p.power)

  small_power : Digits cells (2 ^ w)
  small_power = subst (Digits cells) p.power small

  pub length_told_lem : period_length_of cells ≡ Ok l
  length_told_lem = at_power (λ k. period_length_of cells ≡ Ok (halving w (cells_from cells 0 k))) (L.length_told_lem (law_period p) small_power)

  least_length : (ts : List ℕ) (k : ℕ) → Repeats cells n ts → 2 * n ≤ k → k ≤ length ts → Least 2 (at ts) k l
  least_length ts k r enough h =
      at_power (λ z. 2 * z ≤ k → ((j : ℕ) → j < k → at ts j ≡ cell_at cells (j % z)) → Least 2 (at ts) k (halving w (cells_from cells 0 z)))
      (L.length_least (law_period p) small_power (at ts) k) enough (λ j b. r.each j (omega arith))

  -- twice of it is at most two periods, so that the register is the only one
  short : l ≤ n
  short = at_power (λ z. halving w (cells_from cells 0 z) ≤ z) (L.length_short (law_period p) small_power)

  module _ (calls : List Call) (r : Repeats cells n (taken 2 calls)) where
    abbrev ts : List ℕ
    ts = taken 2 calls

    shown : (a b lent : List ℕ) → length a ≡ a_bytes → length b ≡ b_bytes → length lent ≡ profile_bytes → ShownBy 2 ts (after_all (open_of 2).sequence calls) a b lent
    unfolding Demand3
    shown = (demand 2 (omega arith) (omega arith)).shows calls

    all_terms : (T.register 2 ts (length ts)).length ≡ l
    all_terms =
        least_unique 2 (at ts) (length ts) (T.register 2 ts (length ts)).length l (register_right 2 (omega arith) ts (length ts)).least
        (least_length ts (length ts) r r.twice (omega arith))

    sole : uniqueness_of 2 (length ts) l ≡ Sole
    unfolding first least_divisor
    sole = said_sole (is_prime 2) (length ts) l refl (omega (arith, short, r.twice))

    reported : (a b : List ℕ) → length a ≡ a_bytes → length b ≡ b_bytes → report_of (after_all (open_of 2).sequence calls) a b ≡ of_length l Sole
    reported a b ha hb =
        (shown a b (replicate profile_bytes 0) ha hb (length-replicate {A = ℕ} profile_bytes 0)).reported
        ∙ ap (λ (k : ℕ). of_length k (uniqueness_of 2 (length ts) k)) all_terms ∙ ap (λ (u : Uniqueness). of_length l u) sole

    profiled : (lent : List ℕ) (k : ℕ) → length lent ≡ profile_bytes → 2 * n ≤ k → k ≤ length ts → profile_cell 2 calls lent k ≡ l
    profiled lent k h enough b =
        least_unique 2 (at ts) k (profile_cell 2 calls lent k) l
        ((shown (replicate a_bytes 0) (replicate b_bytes 0) lent (length-replicate {A = ℕ} a_bytes 0) (length-replicate {A = ℕ} b_bytes 0) h).least k b)
        (least_length ts k r enough b)

  made : (query out : List ℕ) → check_of query ≡ Ok tt → cell_at query 0 ≡ 2 → Repeats cells n (terms_of query) → length out ≡ record_bytes → length_made query out ≡ l
  made query out fine two r h =
      least_unique 2 (at (terms_of query)) (cell_at query 1) (length_made query out) l
      (subst (λ (m : ℕ). Least m (at (terms_of query)) (cell_at query 1) (length_made query out)) two (made_least query fine out h))
      (least_length (terms_of query) (cell_at query 1) r (omega (arith, r.twice, count_is query fine)) (omega (arith, count_is query fine)))

  some : zero < n
  some = omega (arith, p.power, one-le-pow w 2 (omega arith))

  -- the terms are digits
  repeats_below : (ts : List ℕ) → Repeats cells n ts → (j : ℕ) → j < length ts → at ts j < 2
  repeats_below us r j h = subst (λ (x : ℕ). x < 2) (sym (r.each j h)) (small (j % n) (mod-lt j some))

  written : (ts : List ℕ) → Repeats cells n ts → length ts ≤ max_terms → WrittenQuery ts
  written ts r few =
      let below = repeats_below ts r in
      record {
        passes = query_passes 2 ts (omega arith) (omega arith) few below;
        modulus = query_modulus 2 ts (omega arith) (omega arith) few below;
        terms = query_terms 2 ts (omega arith) (omega arith) few below;
      }

  whole : (q : ℕ) → 2 ≤ q → q * n ≤ max_terms → WholePeriods cells n q
  whole = whole_periods cells n p.size small some

  pub desk_length : DeskLength cells n l
  desk_length =
      record {
        short = short;
        least = least_length;
        reported = λ calls a b r. reported calls r a b;
        profiled = λ calls lent k r. profiled calls r lent k;
        made = made;
        whole = whole;
        two = whole 2 (omega arith) (omega (arith, L.period_small (law_period p), p.power));
        written = written;
      }

-- ---- the reason of each reply

module _ (cells : List ℕ) where
  abbrev n : ℕ
  n = length cells / 2

  abbrev i : ℕ
  i = first_large 2 (digits_in cells) (length cells / 2)

  reason : Reason cells (period_length_of cells)
  reason = go (ℕ_discrete (length cells % 2) zero)
    where
      digits : length cells % 2 ≡ zero → (h : exponent n < 7) → IsPeriod cells n (exponent n) → Dec (i < n) → Reason cells (period_length_of cells)
      digits e h p (yes b) =
          digit n (exponent n) i p b (L.large_at cells n b) (L.large_before cells n) (sym (L.reply_digit cells e (exponent n) refl h i refl b))
      digits e h p (no b) =
          let small = L.digits_none cells n (omega arith) in
          told n (exponent n) p small (length_told_lem cells n (exponent n) p small)

      even : length cells % 2 ≡ zero → Dec (exponent n < 7) → Reason cells (period_length_of cells)
      even e (yes h) = digits e h (record { size = omega arith; power = L.exponent_power n h; below = h }) (dec_lt i n)
      even e (no h) = other n (omega arith) (λ w p. h (L.period_exponent (law_period p))) (sym (L.reply_period cells e (exponent n) refl (omega arith)))

      go : Dec (length cells % 2 ≡ zero) → Reason cells (period_length_of cells)
      go (no f) = odd f (sym (L.reply_odd cells f))
      go (yes e) = even e (dec_lt (exponent n) 7)

  exactly : (r : Measured) → Reason cells r → period_length_of cells ≡ r
  exactly r (odd f e) = sym (L.reply_odd cells f) ∙ sym e
  exactly r (other k size none e) = go (dec_lt (exponent n) 7) ∙ sym e
    where
      half : n ≡ k
      half = omega arith

      go : Dec (exponent n < 7) → period_length_of cells ≡ Err R.Period
      go (yes h) = absurd (none (exponent n) (record { size = size; power = sym half ∙ L.exponent_power n h; below = h }))
      go (no h) = sym (L.reply_period cells (omega arith) (exponent n) refl (omega arith))
  exactly r (digit k w j p b large before e) = L.large_told (law_period p) j (omega (arith, p.power)) large before ∙ sym e
  exactly r (told k w p small e) = length_told_lem cells k w p small ∙ sym e

  by_number : measured_answer (period_length_of cells) ≡ period_length_answer cells
  by_number = (period_told cells refl).result_value

  coded : (r : Measured) → period_length_of cells ≡ r → length_code_of (period_length_answer cells) ≡ length_code_of (measured_answer r)
  coded r e = ap length_code_of (sym by_number ∙ ap measured_answer e)

  measures : Measures cells
  measures =
      record {
        reason = reason;
        exactly = exactly;
        legal = λ k w p small. (halving w (cells_from cells 0 k), (length_told_lem cells k w p small, desk_length cells k w p small));
        by_number = by_number;
        length_code = λ l e. coded (Ok l) e ∙ sym (length_valued l);
        refused_code = λ r e. coded (Err r) e ∙ length_refused r;
      }

pub binary_periods : BinaryPeriods
unfolding BinaryPeriods
binary_periods = measures
