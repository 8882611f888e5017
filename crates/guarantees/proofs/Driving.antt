-- Driving a coded list of calls: one call more, and what the replies and the buffers are at the end.
-- Assumes nothing.
use mathlib.Core.Path.{◌≡◌, refl, sym, ap, ◌∙◌, subst, subst₂}
use mathlib.Core.List.{List, [], ◌∷◌, ◌++◌, map}
use Prim.Native.Nat.{ℕ, zero, suc, ◌+◌, ◌-◌, ◌≤◌, ◌<◌}
use native.Mathlib.Numerals.{add-one}
use native.Mathlib.Omega.{arith}
use lib.ListN.{length, take}
use lib.Seq.{take-suc, take_all}
use Rattle.lists.specs.Table.{at}
use Rattle.sequence.specs.declared.Sequence.{Sequence}
use Rattle.sequence.specs.Limits.{max_modulus, a_bytes, b_bytes, profile_bytes}
use Rattle.sequence.specs.Rules.{open_of, push_of}
use Rattle.sequence.specs.Report.{report_of, a_buffer, b_buffer, profile_of, profile_buffer, filled}
use Rattle.column.specs.declared.PushedAll.{PushedAll}
use Rattle.column.specs.Rules.{push_all_of}
use Rattle.guarantees.specs.declared.Replies.{Replies}
use Rattle.guarantees.specs.Calls.{after, after_all}
use Rattle.guarantees.specs.Claims.{Shows, ShownBy, Demand3}
use Rattle.guarantees.specs.Coded.{call_of, taken_by, State, state_of, after_register, after_profile, after_code, after_codes, driven_to, replies_of, ended}
use Rattle.guarantees.proofs.Demand.{demand}
use Rattle.sequence.specs.Answers.{Outcome, Reported}

-- ---- one call

-- a register was made
after_register_lem : (s : Sequence) (a b cells a' b' : List ℕ) (r : Reported) → r ≡ report_of s a b → a' ≡ filled r (a_buffer s) a → b' ≡ filled r (b_buffer s) b
    → state_of s a' b' cells ≡ after_register (state_of s a b cells)
unfolding after_register
after_register_lem s a b cells a' b' r hr ha hb =
    λ i. state_of s ((ha ∙ ap (λ (t : Reported). filled t (a_buffer s) a) hr) i) ((hb ∙ ap (λ (t : Reported). filled t (b_buffer s) b) hr) i) cells

-- a profile
after_profile_lem : (s : Sequence) (a b cells cells' : List ℕ) (o : Outcome) → o ≡ profile_of s cells → cells' ≡ filled o (profile_buffer s) cells
    → state_of s a b cells' ≡ after_profile (state_of s a b cells)
unfolding after_profile
after_profile_lem s a b cells cells' o ho hc = ap (state_of s a b) (hc ∙ ap (λ (t : Outcome). filled t (profile_buffer s) cells) ho)

module _ (s : Sequence) (code : ℕ) (list a b cells : List ℕ) where
  -- the call of this code is the one that was made
  coded : (c : ℕ) {x : State} → x ≡ after_code list (state_of s a b cells) c → code ≡ c → x ≡ after_code list (state_of s a b cells) code
  coded c h e = h ∙ ap (after_code list (state_of s a b cells)) (sym e)

  pub reports : (a' b' : List ℕ) (r : Reported) → code ≡ 0 → r ≡ report_of s a b → a' ≡ filled r (a_buffer s) a → b' ≡ filled r (b_buffer s) b
      → state_of s a' b' cells ≡ after_code list (state_of s a b cells) code
  unfolding after_code
  reports a' b' r h hr ha hb = coded 0 (after_register_lem s a b cells a' b' r hr ha hb) h

  pub profiles : (cells' : List ℕ) (o : Outcome) → code ≡ 1 → o ≡ profile_of s cells → cells' ≡ filled o (profile_buffer s) cells
      → state_of s a b cells' ≡ after_code list (state_of s a b cells) code
  unfolding after_code
  profiles cells' o h ho hc = coded 1 (after_profile_lem s a b cells cells' o ho hc) h

  -- a column
  pub columns : (p : PushedAll) → code ≡ 2 → p ≡ push_all_of s list → state_of p.sequence a b cells ≡ after_code list (state_of s a b cells) code
  unfolding after_code
  columns p h hp = coded 2 (ap (λ (q : PushedAll). state_of q.sequence a b cells) hp) h

  -- a push
  pub pushes :
      (s' : Sequence) → (code ≡ 0 → ⊥) → (code ≡ 1 → ⊥) → (code ≡ 2 → ⊥) → s' ≡ (push_of s (code - 3)).sequence
      → state_of s' a b cells ≡ after_code list (state_of s a b cells) code
  unfolding after_code
  pushes s' h k l hp =
      coded (suc (suc (suc (code - 3)))) (ap (λ (q : Sequence). state_of q a b cells) hp) (omega arith)

-- ---- the list of calls

codes_snoc : (list : List ℕ) (x : State) (cs : List ℕ) (c : ℕ) → after_codes list x (cs ++ (c ∷ [])) ≡ after_code list (after_codes list x cs) c
unfolding after_codes
codes_snoc list x [] c = refl
codes_snoc list x (d ∷ cs) c = codes_snoc list (after_code list x d) cs c

-- the state after the first i calls
abbrev pub Reached : List ℕ → State → List ℕ → ℕ → State → Type 0
Reached list x₀ codes i x = x ≡ after_codes list x₀ (take i codes)

module _ (list : List ℕ) (x₀ : State) (codes : List ℕ) where
  pub reached_none : Reached list x₀ codes 0 x₀
  unfolding after_codes
  reached_none = refl

  pub reached_more : (i : ℕ) (x x' : State) → i < length codes → Reached list x₀ codes i x → x' ≡ after_code list x (at codes i) → Reached list x₀ codes (i + 1) x'
  reached_more i x x' h r e =
      e ∙ ap (λ (t : State). after_code list t (at codes i)) r ∙ sym (codes_snoc list x₀ (take i codes) (at codes i))
      ∙ ap (after_codes list x₀) (sym (take-suc codes i 0 h) ∙ ap (λ (k : ℕ). take k codes) (sym (add-one i)))

  pub reached_all : (i : ℕ) (x : State) → length codes ≤ i → Reached list x₀ codes i x → x ≡ after_codes list x₀ codes
  reached_all i x h r = r ∙ ap (after_codes list x₀) (take_all i codes h)

-- the sequence is the one that the calls leave
after_one : (list : List ℕ) (x : State) (code : ℕ) → (after_code list x code).sequence ≡ after x.sequence (call_of list code)
unfolding after_code after_register after_profile
after_one list x zero = refl
after_one list x (suc zero) = refl
after_one list x (suc (suc zero)) = refl
after_one list x (suc (suc (suc t))) = refl

after_all_lem : (list : List ℕ) (x : State) (codes : List ℕ) → (after_codes list x codes).sequence ≡ after_all x.sequence (map (call_of list) codes)
unfolding after_codes after_all
after_all_lem list x [] = refl
after_all_lem list x (c ∷ cs) = after_all_lem list (after_code list x c) cs ∙ ap (λ (s : Sequence). after_all s (map (call_of list) cs)) (after_one list x c)

-- ---- the last register and the last profile

abbrev ShowsAt : ℕ → List ℕ → List ℕ → Replies → State → Type 0
ShowsAt m list codes r x = Shows m (taken_by m list codes) r.reported r.profiled x.a x.b x.cells

module _ (m : ℕ) (codes list a₀ b₀ cells₀ : List ℕ) (s : Sequence) (a b cells : List ℕ) (reached : state_of s a b cells ≡ driven_to m codes list a₀ b₀ cells₀)
    (same_a : length a ≡ length a₀) (same_b : length b ≡ length b₀) (same_cells : length cells ≡ length cells₀)
    (r : Reported) (o : Outcome) (a' b' cells' : List ℕ) (hr : r ≡ report_of s a b) (ha : a' ≡ filled r (a_buffer s) a) (hb : b' ≡ filled r (b_buffer s) b)
    (ho : o ≡ profile_of s cells) (hc : cells' ≡ filled o (profile_buffer s) cells) where
  replied : ◌≡◌ {A = Replies} (record { reported = r; profiled = o }) (replies_of (state_of s a b cells))
  unfolding replies_of
  replied = λ i. record { reported = hr i; profiled = ho i }

  left : state_of s a' b' cells' ≡ ended (state_of s a b cells)
  left = after_profile_lem s a' b' cells cells' o ho hc ∙ ap after_profile (after_register_lem s a b cells a' b' r hr ha hb)

  -- they show the terms that the coded calls took
  shown : 2 ≤ m → m ≤ max_modulus → length a₀ ≡ a_bytes → length b₀ ≡ b_bytes → length cells₀ ≡ profile_bytes → Shows m (taken_by m list codes) r o a' b' cells'
  unfolding Demand3 after_register after_profile replies_of
  shown least most la lb lc =
      subst₂ (ShowsAt m list codes) (sym replied) (sym left)
      (subst (λ (t : Sequence). ShownBy m (taken_by m list codes) t a b cells) (sym (ap (λ (x : State). x.sequence) reached ∙ after_all_lem list (state_of (open_of m).sequence a₀ b₀ cells₀) codes))
      ((demand m least most).shows (map (call_of list) codes) a b cells (same_a ∙ la) (same_b ∙ lb) (same_cells ∙ lc)))

  pub driven : record { value : ◌≡◌ {A = Replies} (record { reported = r; profiled = o }) (replies_of (driven_to m codes list a₀ b₀ cells₀)); a_after : a' ≡ (ended (driven_to m codes list a₀ b₀ cells₀)).a; b_after : b' ≡ (ended (driven_to m codes list a₀ b₀ cells₀)).b; cells_after : cells' ≡ (ended (driven_to m codes list a₀ b₀ cells₀)).cells; shows : 2 ≤ m → m ≤ max_modulus → length a₀ ≡ a_bytes → length b₀ ≡ b_bytes → length cells₀ ≡ profile_bytes → Shows m (taken_by m list codes) r o a' b' cells' }
  driven =
      let e = left ∙ ap ended reached in
      record { value = replied ∙ ap replies_of reached; a_after = ap (λ (x : State). x.a) e; b_after = ap (λ (x : State). x.b) e; cells_after = ap (λ (x : State). x.cells) e; shows = shown }
