-- The claim about traces, for every modulus and every list of calls.
-- Assumes nothing.
use mathlib.Core.Path.{◌≡◌, refl, sym, ap, ap₂, ◌∙◌, subst}
use mathlib.Core.List.{List, [], ◌∷◌, ◌++◌, map}
use Prim.Native.Nat.{ℕ, ◌*◌, ◌≤◌, ◌<◌}
use native.Mathlib.Omega.{arith}
use lib.ListN.{length, drop, length-map}
use borrow.Author.Tests.{eq-eqb, le-leb, lt-leb}
use Rattle.std.specs.Prelude.{Err}
use Rattle.lists.specs.Table.{at, tabulate}
use Rattle.cells.specs.Cell.{bytes_of}
use Rattle.residue.specs.Factors.{prime_powers}
use Rattle.recurrence.specs.Register as T
use Rattle.recurrence.specs.Register.{Register}
use Rattle.recurrence.specs.Working.{Step, sheet_of, rows_over, replay}
use Rattle.recurrence.proofs.Working.{length_sheet, sheet_same, replay_behind}
use Rattle.steps.specs.declared.StepRecord.{StepRecord}
use Rattle.steps.specs.Log.{step_record, step_of}
use Rattle.sequence.specs.declared.Sequence.{Sequence}
use Rattle.sequence.specs.declared.Refusal.TheVariants.{Buffer}
use Rattle.sequence.specs.Limits.{max_modulus, max_terms, max_cells, a_bytes, b_bytes}
use Rattle.sequence.specs.Report.{length_told, register_of, register_told, a_buffer, b_buffer, filled}
use Rattle.sequence.specs.Trace.{records_of, trace_of, sheet_filled}
use Rattle.guarantees.specs.Calls.{taken}
use Rattle.guarantees.specs.Claims.{WorkedBy, TooShort, EveryTrace, TheWorking}
use Rattle.guarantees.proofs.State.{holding, padded, Good, sound_for, state, good}
use Rattle.guarantees.proofs.Demand.{alike, same_register}
use Rattle.sequence.specs.Answers.{Reported}

-- the steps of a sheet that was stored, with what stands behind it
steps_back : (xs : List Step) (behind : List StepRecord) → map step_of (map step_record xs ++ behind) ≡ xs ++ map step_of behind
steps_back [] behind = refl
steps_back (x ∷ xs) behind = ap (λ (ys : List Step). x ∷ ys) (steps_back xs behind)

module _ (m : ℕ) (least : 2 ≤ m) (most : m ≤ max_modulus) (ts : List ℕ) (g : Good m ts) (a b : List ℕ) (lent : List StepRecord)
    (ha : length a ≡ a_bytes) (hb : length b ≡ b_bytes) where
  abbrev s : Sequence
  s = holding m ts

  abbrev rows : ℕ
  rows = rows_over (prime_powers m)

  same : register_of s ≡ T.register m ts (length ts)
  same = same_register m least most ts g

  same_sheet : sheet_of m (padded ts) (length ts) ≡ sheet_of m ts (length ts)
  same_sheet = sheet_same (padded ts) ts m (length ts) (omega arith) (alike m least most ts g (length ts) (omega arith))

  is_short : length lent < length ts * rows → trace_of s a b (length lent) ≡ Err Buffer
  unfolding trace_of
  is_short h = rw (eq-eqb (length a) a_bytes ha, eq-eqb (length b) b_bytes hb, sound_for m least most ts g, lt-leb (length ts * rows) (length lent) h)

  too_short : length lent < length ts * rows → TooShort s a b lent
  too_short h =
      record {
        refused = is_short h;
        a_lent = ap (λ (r : Reported). filled r (a_buffer s) a) (is_short h);
        b_lent = ap (λ (r : Reported). filled r (b_buffer s) b) (is_short h);
        sheet_lent = ap (λ (r : Reported). sheet_filled r (records_of s) lent) (is_short h);
      }

  module _ (room : length ts * rows ≤ length lent) where
    is_done : trace_of s a b (length lent) ≡ register_told s
    unfolding trace_of
    is_done = rw (eq-eqb (length a) a_bytes ha, eq-eqb (length b) b_bytes hb, sound_for m least most ts g, le-leb (length ts * rows) (length lent) room)

    stored : sheet_filled (trace_of s a b (length lent)) (records_of s) lent ≡ map step_record (sheet_of m ts (length ts)) ++ drop (length ts * rows) lent
    stored =
        ap (λ (r : Reported). sheet_filled r (records_of s) lent) is_done
        ∙ ap₂ (λ (xs : List Step) (k : ℕ). map step_record xs ++ drop k lent) same_sheet
        (length-map (sheet_of m (padded ts) (length ts)) step_record ∙ length_sheet m (padded ts) (length ts))

    works : WorkedBy m ts s a b lent
    works =
        record {
          reported = is_done ∙ ap (λ (x : Register). length_told m (length ts) x.length) same;
          a_as_cells = ap (λ (r : Reported). filled r (a_buffer s) a) is_done ∙ ap (λ (x : Register). bytes_of (tabulate max_cells (at x.a))) same;
          b_as_cells = ap (λ (r : Reported). filled r (b_buffer s) b) is_done ∙ ap (λ (x : Register). bytes_of (tabulate max_terms (at x.b))) same;
          records = stored;
          number = length_sheet m ts (length ts);
          replays =
              ap (λ (z : List StepRecord). replay m (length ts) (map step_of z)) stored
              ∙ ap (replay m (length ts)) (steps_back (sheet_of m ts (length ts)) (drop (length ts * rows) lent))
              ∙ replay_behind m ts (length ts) (omega arith) (map step_of (drop (length ts * rows) lent));
        }

-- after every list of calls a trace shows the working of the terms taken
pub working : TheWorking
unfolding TheWorking
working m least most calls a b lent ha hb =
    let ts = taken m calls in
    let g = good m least most calls in
    subst (λ (s : Sequence). EveryTrace m ts s a b lent) (sym (state m least most calls))
    (record { works = works m least most ts g a b lent ha hb; short = too_short m least most ts g a b lent ha hb })
