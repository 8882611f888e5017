-- The log: the records of a sheet as plain numbers of 64 bits, one for each record.
-- Assumes nothing.
use Rattle.std.specs.Prelude.{◌≡◌, List, [], ◌∷◌, map, ℕ, ◌+◌, ◌*◌, ◌-◌, ◌/◌, ◌%◌, ◌≤◌, ◌<◌, length}
use Rattle.lists.specs.Table.{at}
use Rattle.residue.specs.Factors.{PrimePower}
use Rattle.recurrence.specs.Steps.{case_of}
use Rattle.recurrence.specs.Working.{Step, case_number, partner_told}
use Rattle.steps.specs.declared.ring.Ring.{Ring}
use Rattle.steps.specs.declared.Rows.{Rows}
use Rattle.steps.specs.declared.Seen.{Seen}
use Rattle.steps.specs.declared.StepRecord.{StepRecord}
use Rattle.steps.specs.declared.Told.{Told}

-- the code's record of a step, and the step of a record
abbrev pub step_record : Step → StepRecord
step_record x = record { power = x.power; k = x.k; row = x.η; length = x.length; u = x.u; theta = x.θ; g = x.g; case = x.case }

abbrev pub step_of : StepRecord → Step
step_of x = record { power = x.power; k = x.k; η = x.row; length = x.length; u = x.u; θ = x.theta; g = x.g; case = x.case }

-- a record as one number: its numbers as digits, of bases 128, 16, 256, 16, 65,536, 16 and 4 behind the prime power
unfoldable pub packed : StepRecord → ℕ
packed x =
    ((((((x.power * 128 + x.k) * 16 + x.row) * 256 + x.length) * 16 + x.u) * 65536 + x.theta) * 16 + x.g) * 4 + x.case

-- the record of a number
unfoldable pub unpacked : ℕ → StepRecord
unpacked w =
    let g = w / 4 in
    let θ = g / 16 in
    let u = θ / 65536 in
    let l = u / 16 in
    let η = l / 256 in
    let k = η / 16 in
    record { power = k / 128; k = k % 128; row = η % 16; length = l % 256; u = u % 16; theta = θ % 65536; g = g % 16; case = w % 4 }

-- the words of a sheet
abbrev pub words : List Step → List ℕ
words sheet = map (λ x. packed (step_record x)) sheet

-- a log with these words written over its beginning, as far as it has places
unfoldable pub overlaid : List ℕ → List ℕ → List ℕ
overlaid [] log = log
overlaid (w ∷ ws) [] = []
overlaid (w ∷ ws) (x ∷ log) = w ∷ overlaid ws log

-- each of its numbers is below its base
pub record Narrow (x : StepRecord) : Type 0 where
  pub power : x.power < 65536
  pub k : x.k < 128
  pub row : x.row < 16
  pub length : x.length < 256
  pub u : x.u < 16
  pub theta : x.theta < 65536
  pub g : x.g < 16
  pub case : x.case < 4

-- log' is the log with the n words x 0, x 1, .. from place `first` on, as far as it has places; all else is as it was
pub record Noted (first n : ℕ) (x : ℕ → ℕ) (log log' : List ℕ) : Type 0 where
  pub long : length log' ≡ length log
  pub new : (i : ℕ) → i < n → first + i < length log → at log' (first + i) ≡ x i
  pub before : (i : ℕ) → i < first → at log' i ≡ at log i
  pub behind : (i : ℕ) → first + n ≤ i → at log' i ≡ at log i

-- the prime power of a ring
abbrev pub power_of : Ring → PrimePower
power_of ring = record { prime = ring.p; exponent = ring.e }

-- g and the case of a row with this u, from the lengths of the rows before the step
unfoldable pub told_of : ℕ → List ℕ → ℕ → Told
told_of e len u =
    let g = e - 1 - u in
    let c = case_of e u (at len g) in
    record { g = partner_told c e g; case = case_number c }

-- the record of row i at step k, from the rows before the step and what is seen of them
unfoldable pub described_of : Ring → Rows → Seen → ℕ → ℕ → StepRecord
described_of ring rows seen k i =
    let x = told_of ring.e rows.length (at seen.u i) in
    record { power = ring.q; k = k; row = i; length = at rows.length i; u = at seen.u i; theta = at seen.theta i; g = x.g; case = x.case }
