-- Demand 3, for every modulus and every list of calls.
-- Assumes nothing.
use mathlib.Core.Path.{◌≡◌, sym, ap, ◌∙◌, subst}
use mathlib.Core.List.{List}
use Prim.Native.Nat.{ℕ, zero, ◌≤◌, ◌<◌}
use native.Mathlib.Omega.{arith}
use lib.ListN.{length}
use borrow.Author.Tests.{eq-eqb, le-leb, lt-leb}
use Rattle.std.specs.Prelude.{Ok}
use Rattle.lists.specs.Choice.{pick}
use Rattle.lists.specs.Table.{at, tabulate}
use Rattle.cells.specs.Cell.{cell_at, bytes_of}
use Rattle.cells.proofs.Laws.{cell_of}
use Rattle.residue.proofs.Congruence.{of_eq}
use Rattle.recurrence.specs.Least.{Least}
use Rattle.recurrence.specs.Register as T
use Rattle.recurrence.specs.Register.{Register, complexity}
use Rattle.recurrence.proofs.Steps.{Alike}
use Rattle.recurrence.proofs.Register.{Right, register_right, register_same, complexity_same, complexity_short, complexity_is_least, register_length}
use Rattle.sequence.specs.declared.Sequence.{Sequence}
use Rattle.sequence.specs.Limits.{max_modulus, max_terms, max_cells, a_bytes, b_bytes, profile_bytes}
use Rattle.synthesis.specs.Synthesis.{length_at}
use Rattle.sequence.specs.Report.{length_told, register_of, a_buffer, b_buffer, profile_buffer, report_of, profile_of, filled}
use Rattle.guarantees.specs.Calls.{taken}
use Rattle.guarantees.specs.Claims.{ShownBy, Demand3}
use Rattle.guarantees.proofs.State.{holding, padded, padded_at, Good, sound_for, opens, state, good}
use Rattle.sequence.specs.Answers.{Outcome, Reported}

module _ (m : ℕ) (least : 2 ≤ m) (most : m ≤ max_modulus) (ts : List ℕ) (g : Good m ts) where
  big : 1 < m
  big = least

  -- the padding does not count
  pub alike : (k : ℕ) → k ≤ length ts → Alike m (padded ts) ts k
  alike k h j l = of_eq (padded_at ts j (omega arith))

  pub same_register : register_of (holding m ts) ≡ T.register m ts (length ts)
  same_register = register_same m big (padded ts) ts (length ts) (alike (length ts) (omega arith))

  same_length : (k : ℕ) → k ≤ length ts → length_at m (padded ts) (length ts) k ≡ complexity m ts k
  unfolding length_at
  same_length k h =
      ap (λ t. pick t (complexity m (padded ts) k) zero) (le-leb k (length ts) h)
      ∙ complexity_same m big (padded ts) ts k (alike k h)

  right : Right m ts (length ts) (T.register m ts (length ts))
  right = register_right m big ts (length ts)

  -- what is written where a call is not refused
  pub reported : (a b : List ℕ) → length a ≡ a_bytes → length b ≡ b_bytes → report_of (holding m ts) a b ≡ length_told m (length ts) (T.register m ts (length ts)).length
  unfolding report_of
  reported a b ha hb =
      rw (eq-eqb (length a) a_bytes ha, eq-eqb (length b) b_bytes hb, sound_for m least most ts g) (ap (λ (x : Register). length_told m (length ts) x.length) same_register)

  pub profiled : (cells : List ℕ) → length cells ≡ profile_bytes → profile_of (holding m ts) cells ≡ Ok tt
  unfolding profile_of
  profiled cells h = rw (eq-eqb (length cells) profile_bytes h, sound_for m least most ts g)

  pub a_written : (a b : List ℕ) → length a ≡ a_bytes → length b ≡ b_bytes
      → filled (report_of (holding m ts) a b) (a_buffer (holding m ts)) a ≡ bytes_of (tabulate max_cells (at (T.register m ts (length ts)).a))
  a_written a b ha hb =
      ap (λ (r : Reported). filled r (a_buffer (holding m ts)) a) (reported a b ha hb)
      ∙ ap (λ (x : Register). bytes_of (tabulate max_cells (at x.a))) same_register

  pub b_written : (a b : List ℕ) → length a ≡ a_bytes → length b ≡ b_bytes
      → filled (report_of (holding m ts) a b) (b_buffer (holding m ts)) b ≡ bytes_of (tabulate max_terms (at (T.register m ts (length ts)).b))
  b_written a b ha hb =
      ap (λ (r : Reported). filled r (b_buffer (holding m ts)) b) (reported a b ha hb)
      ∙ ap (λ (x : Register). bytes_of (tabulate max_terms (at x.b))) same_register

  profile_cell_lem : (cells : List ℕ) → length cells ≡ profile_bytes → (k : ℕ) → k < max_cells → length_at m (padded ts) (length ts) k < 65536
      → cell_at (filled (profile_of (holding m ts) cells) (profile_buffer (holding m ts)) cells) k ≡ length_at m (padded ts) (length ts) k
  profile_cell_lem cells h k l s =
      ap (λ (o : Outcome). cell_at (filled o (profile_buffer (holding m ts)) cells) k) (profiled cells h)
      ∙ cell_of max_cells (length_at m (padded ts) (length ts)) k l s

  profile_at : (cells : List ℕ) → length cells ≡ profile_bytes → (k : ℕ) → k ≤ length ts
      → cell_at (filled (profile_of (holding m ts) cells) (profile_buffer (holding m ts)) cells) k ≡ complexity m ts k
  profile_at cells h k l =
      profile_cell_lem cells h k (omega (arith, g.size)) (omega (arith, same_length k l, complexity_short m big ts k, g.size)) ∙ same_length k l

  past_length : (k : ℕ) → length ts < k → length_at m (padded ts) (length ts) k ≡ zero
  unfolding length_at
  past_length k h = ap (λ t. pick t (complexity m (padded ts) k) zero) (lt-leb k (length ts) h)

  pub shows : (a b cells : List ℕ) → length a ≡ a_bytes → length b ≡ b_bytes → length cells ≡ profile_bytes → ShownBy m ts (holding m ts) a b cells
  shows a b cells ha hb hc =
      record {
        reported = reported a b ha hb;
        profiled = profiled cells hc;
        a_as_cells = a_written a b ha hb;
        b_as_cells = b_written a b ha hb;
        least = λ k h. subst (λ (z : ℕ). Least m (at ts) k z) (sym (profile_at cells hc k h)) (complexity_is_least m big ts k);
        zeros = λ k h l.
            let z : length_at m (padded ts) (length ts) k ≡ zero = past_length k h in
            profile_cell_lem cells hc k (omega arith) (omega arith) ∙ z;
        last = register_length m big ts (length ts) ∙ sym (profile_at cells hc (length ts) (omega arith));
        one =
            ap (λ (s : List ℕ). cell_at s 0) (a_written a b ha hb)
            ∙ cell_of max_cells (at (T.register m ts (length ts)).a) 0 (omega arith) (omega (arith, right.one)) ∙ right.one;
        generates = right.generates;
      }

-- after every list of calls the register and the profile show the terms taken
pub demand : Demand3
unfolding Demand3
demand m least most =
    record {
      opened = opens m least most;
      shows = λ calls a b cells ha hb hc.
          subst (λ (s : Sequence). ShownBy m (taken m calls) s a b cells) (sym (state m least most calls))
          (shows m least most (taken m calls) (good m least most calls) a b cells ha hb hc);
    }
