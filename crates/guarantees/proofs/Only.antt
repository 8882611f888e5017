-- The claim about the only register, for every list of calls.
-- Assumes nothing.
use mathlib.Core.Path.{◌≡◌, refl, sym, ap, ◌∙◌, subst}
use mathlib.Core.Bool.{Bool, true, false}
use mathlib.Core.List.{List}
use Prim.Native.Nat.{ℕ, zero, suc, ◌*◌, ◌-◌, ◌^◌, ◌≤◌, ◌<◌}
use native.Mathlib.Nat.{pow-zero}
use native.Mathlib.Decide.{dec_le}
use native.Mathlib.Omega.{arith}
use lib.ListN.{length, replicate, length-replicate}
use Rattle.lists.specs.Table.{at, tabulate}
use Rattle.lists.proofs.Table.{tabulate_eq}
use Rattle.cells.specs.Cell.{bytes_of}
use Rattle.cells.proofs.Laws.{cell_of}
use Rattle.residue.specs.Units.{Prime}
use Rattle.residue.specs.Factors.{is_prime}
use Rattle.residue.proofs.Factors.{test_prime, prime_test}
use Rattle.recurrence.specs.Register as T
use Rattle.recurrence.specs.Register.{complexity}
use Rattle.recurrence.proofs.Register.{register_right, register_length, complexity_short, complexity_is_least}
use Rattle.counting.specs.Numbering.{ListOf}
use Rattle.counting.specs.Solutions.{Solves, NoSecond, Second}
use Rattle.counting.proofs.Solutions.{counts_lists, own, own_is, own_solution, how_many, own_only, second}
use Rattle.sequence.specs.declared.Uniqueness.{Uniqueness}
use Rattle.sequence.specs.declared.Uniqueness.TheVariants.{Sole, Several, NotTold}
use Rattle.sequence.specs.Limits.{max_modulus, max_terms, max_cells, profile_bytes}
use Rattle.sequence.specs.Report.{uniqueness_of, length_told}
use Rattle.sequence.proofs.OnlyOne.{said_sole, said_several, said_nothing, said_apart}
use Rattle.guarantees.specs.Calls.{taken}
use Rattle.guarantees.specs.Claims.{Demand3, TheWorking}
use Rattle.guarantees.specs.Only.{ToldOf, list_in, Says, TheOnlyOne}
use Rattle.guarantees.proofs.State.{good}
use Rattle.guarantees.proofs.Demand.{demand}
use Rattle.guarantees.proofs.Working.{working}
use Rattle.sequence.specs.Answers.{Reported}

module _ (m : ℕ) (big : 2 ≤ m) (ts : List ℕ) where
  abbrev n : ℕ
  n = length ts

  abbrev l : ℕ
  l = complexity m ts (length ts)

  abbrev word : Uniqueness
  word = uniqueness_of m (length ts) (complexity m ts (length ts))

  -- ---- a prime modulus

  module _ (P : Prime m) where
    is_sole : 2 * l ≤ n → word ≡ Sole
    is_sole h = said_sole (is_prime m) n l (prime_test m P) h

    is_several : n < 2 * l → word ≡ Several
    is_several h = said_several (is_prime m) n l (prime_test m P) h

    short : word ≡ Sole → 2 * l ≤ n
    short e = go (dec_le (2 * l) n)
      where
        go : Dec (2 * l ≤ n) → 2 * l ≤ n
        go (yes h) = h
        go (no h) = said_apart Sole Several (omega arith) (sym e ∙ is_several (omega arith))

    long : word ≡ Several → n < 2 * l
    long e = go (dec_le (2 * l) n)
      where
        go : Dec (2 * l ≤ n) → n < 2 * l
        go (yes h) = said_apart Sole Several (omega arith) (sym (is_sole h) ∙ e)
        go (no h) = omega arith

    told : ToldOf m ts l (own m ts n) word
    told =
        record {
          sole_none = λ e. own_only m P ts n (short e);
          none_sole = λ none. alone none (dec_le (2 * l) n);
          several_second = λ e. second m P ts n (long e);
          second_several = λ x. several x (dec_le (2 * l) n);
          sole_short = short;
          short_sole = is_sole;
          several_long = long;
          long_several = is_several;
          one = λ h. how_many m P ts n ∙ ap (λ (k : ℕ). m ^ k) (let e : 2 * l - n ≡ zero = omega arith in e) ∙ pow-zero m;
          many = λ h. how_many m P ts n;
        }
      where
        alone : NoSecond m ts n (own m ts n) → Dec (2 * l ≤ n) → word ≡ Sole
        alone none (yes h) = is_sole h
        alone none (no h) = let x = second m P ts n (omega arith) in absurd (x.differs (none x.list x.list_of x.solves))

        several : Second m ts n (own m ts n) → Dec (2 * l ≤ n) → word ≡ Several
        several x (yes h) = absurd (x.differs (own_only m P ts n h x.list x.list_of x.solves))
        several x (no h) = is_several (omega arith)

  -- ---- any modulus

  untold : word ≡ NotTold → Prime m → ⊥
  untold e P = go (dec_le (2 * l) n)
    where
      go : Dec (2 * l ≤ n) → ⊥
      go (yes h) = said_apart NotTold Sole (omega arith) (sym e ∙ is_sole P h)
      go (no h) = said_apart NotTold Several (omega arith) (sym e ∙ is_several P (omega arith))

  other : (Prime m → ⊥) → word ≡ NotTold
  other no_prime = said_nothing (is_prime m) n l (go (is_prime m) (test_prime m))
    where
      go : (t : Bool) → (t ≡ true → Prime m) → t ≡ false
      go true f = absurd (no_prime (f refl))
      go false f = refl

  -- a register and its reply, however they came
  module _ (most : m ≤ max_modulus) (few : length ts ≤ max_terms) (r : Reported) (a : List ℕ)
      (answer : r ≡ length_told m (length ts) (T.register m ts (length ts)).length)
      (cells : a ≡ bytes_of (tabulate max_cells (at (T.register m ts (length ts)).a))) where
    -- the list that is written is the register's own
    written_own : list_in l a ≡ own m ts n
    unfolding own
    written_own =
        ap (list_in l) cells
        ∙ tabulate_eq l _ _
        (λ i h. cell_of max_cells (at (T.register m ts n).a) (suc i) (omega (arith, complexity_short m big ts n)) (omega (arith, (register_right m big ts n).small_a (suc i))))

    pub says : Says m ts r a
    says =
        record {
          l = l;
          word = word;
          reported = answer ∙ ap (length_told m n) (register_length m big ts n);
          least = complexity_is_least m big ts n;
          list_of = subst (ListOf m l) (sym written_own) (own_is m big ts n);
          solves = subst (Solves m ts n) (sym written_own) (own_solution m big ts n);
          counts = counts_lists m (omega arith) ts n l;
          untold_other = untold;
          other_untold = other;
          told = λ P. subst (λ (c : List ℕ). ToldOf m ts l c word) (sym written_own) (told P);
        }

-- after every list of calls the word beside the length is right
pub the_only_one : TheOnlyOne
unfolding TheOnlyOne Demand3 TheWorking
the_only_one m least most calls a b ha hb =
    let ts = taken m calls in
    let few = (good m least most calls).size in
    let shown = (demand m least most).shows calls a b (replicate profile_bytes zero) ha hb (length-replicate profile_bytes zero) in
    record {
      register = says m least ts most few _ _ shown.reported shown.a_as_cells;
      trace = λ lent room.
          let w = (working m least most calls a b lent ha hb).works room in
          says m least ts most few _ _ w.reported w.a_as_cells;
    }
