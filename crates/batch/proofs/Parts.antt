-- Parts of a buffer, each as long as a record, end to end: one of them renewed, and all of them.
-- Assumes nothing.
use mathlib.Core.Path.{◌≡◌, refl, sym, ap, ap₂, ◌∙◌}
use mathlib.Core.List.{List, [], ◌∷◌, ◌++◌}
use Prim.Native.Nat.{ℕ, zero, suc, ◌+◌, ◌-◌, ◌*◌, ◌≤◌, ◌<◌}
use native.Mathlib.Omega.{arith}
use lib.ListN.{length, take, drop, replicate, length-append, length-drop, length-replicate, take-append-drop, get_or-replicate}
use lib.Seq.{take_at, drop_at, take-take, drop-drop, length-take-le, get_or-take, get_or-drop, ext_get_or}
use borrow.Rule.Slice.PartMut.{put_mid, same_len_mid, mid_len, take_put, drop_put}
use Rattle.lists.specs.Table.{at, tabulate}
use Rattle.sequence.specs.Limits.{query_bytes}
use Rattle.catalogue.specs.Rules.{record_bytes, record_at}
use Rattle.batch.specs.Rules.{query_at, zero_record, end_to_end}

-- ---- one part renewed

-- what lies before place a
take_within : (b m a : ℕ) (z : List ℕ) → b + m ≤ a → take m (drop b z) ≡ take m (drop b (take a z))
take_within zero m a z h = sym (take-take m a z (omega arith))
take_within (suc b) m zero z h = absurd (omega arith)
take_within (suc b) m (suc a) [] h = refl
take_within (suc b) m (suc a) (x ∷ z) h = take_within b m a z (omega arith)

module _ (out y : List ℕ) (a : ℕ) (fits : a + record_bytes ≤ length out) (full : length y ≡ record_bytes) where
  abbrev put : List ℕ
  put = put_mid a (a + record_bytes - a) out y

  pub put_here : take record_bytes (drop a put) ≡ y
  put_here = ap (take record_bytes) (drop_at (take a out) _ a (length-take-le a out (omega arith))) ∙ take_at y _ record_bytes full

  pub put_before : (b : ℕ) → b + record_bytes ≤ a → take record_bytes (drop b put) ≡ take record_bytes (drop b out)
  put_before b h =
      take_within b record_bytes a put h
      ∙ ap (λ (z : List ℕ). take record_bytes (drop b z)) (take_put a (a + record_bytes - a) out y (omega arith))
      ∙ sym (take_within b record_bytes a out h)

  pub put_after : (b : ℕ) → a + record_bytes ≤ b → take record_bytes (drop b put) ≡ take record_bytes (drop b out)
  put_after b h =
      let e : a + record_bytes + (b - (a + record_bytes)) ≡ b = omega arith in
      let from : (z : List ℕ) → drop b z ≡ drop (b - (a + record_bytes)) (drop (a + record_bytes) z) = λ z. ap (λ (n : ℕ). drop n z) (sym e) ∙ sym (drop-drop (b - (a + record_bytes)) (a + record_bytes) z) in
      ap (take record_bytes)
      (from put
      ∙ ap (drop (b - (a + record_bytes))) (drop_put a (a + record_bytes) out y (omega arith) fits (full ∙ omega arith))
      ∙ sym (from out))

  pub put_long : length put ≡ length out
  put_long = same_len_mid a (a + record_bytes - a) out y (full ∙ sym (mid_len a (a + record_bytes) out fits ∙ omega arith))

-- ---- all parts

pub is_end_to_end : (n : ℕ) (f : ℕ → List ℕ) (out : List ℕ) → length out ≡ n * record_bytes → ((i : ℕ) → i < n → record_at out i ≡ f i) → out ≡ end_to_end n f
unfolding end_to_end
is_end_to_end zero f [] w h = refl
is_end_to_end zero f (x ∷ out) w h = absurd (omega arith)
is_end_to_end (suc n) f out w h =
    sym (take-append-drop record_bytes out)
    ∙ ap₂ (λ (x y : List ℕ). x ++ y) (h zero (omega arith))
    (is_end_to_end n (λ i. f (suc i)) (drop record_bytes out) (length-drop record_bytes out ∙ omega arith) (λ i l. next i ∙ h (suc i) (omega arith)))
  where
    next : (i : ℕ) → record_at (drop record_bytes out) i ≡ record_at out (suc i)
    next i =
        let e : record_bytes + i * record_bytes ≡ suc i * record_bytes = omega arith in
        ap (take record_bytes) (drop-drop (i * record_bytes) record_bytes out ∙ ap (λ (z : ℕ). drop z out) e)

pub end_to_end_eq : (n : ℕ) (f g : ℕ → List ℕ) → ((i : ℕ) → i < n → f i ≡ g i) → end_to_end n f ≡ end_to_end n g
unfolding end_to_end
end_to_end_eq zero f g h = refl
end_to_end_eq (suc n) f g h =
    ap₂ (λ (x y : List ℕ). x ++ y) (h zero (omega arith)) (end_to_end_eq n (λ i. f (suc i)) (λ i. g (suc i)) (λ i l. h (suc i) (omega arith)))

-- parts that are each as long as a record
pub end_to_end_long : (n : ℕ) (f : ℕ → List ℕ) → ((i : ℕ) → i < n → length (f i) ≡ record_bytes) → length (end_to_end n f) ≡ n * record_bytes
unfolding end_to_end
end_to_end_long zero f h = refl
end_to_end_long (suc n) f h =
    omega (arith, length-append (f zero) (end_to_end n (λ i. f (suc i))), h zero (omega arith), end_to_end_long n (λ i. f (suc i)) (λ i l. h (suc i) (omega arith)))

pub at_end_to_end : (n : ℕ) (f : ℕ → List ℕ) → ((i : ℕ) → i < n → length (f i) ≡ record_bytes) → (i : ℕ) → i < n → record_at (end_to_end n f) i ≡ f i
unfolding end_to_end
at_end_to_end zero f h i l = absurd (omega arith)
at_end_to_end (suc n) f h zero l = take_at (f zero) (end_to_end n (λ i. f (suc i))) record_bytes (h zero (omega arith))
at_end_to_end (suc n) f h (suc i) l =
    ap (take record_bytes) (skip ∙ ap (drop (i * record_bytes)) (drop_at (f zero) (end_to_end n (λ i. f (suc i))) record_bytes (h zero (omega arith))))
    ∙ at_end_to_end n (λ i. f (suc i)) (λ i l. h (suc i) (omega arith)) i (omega arith)
  where
    skip : drop (suc i * record_bytes) (f zero ++ end_to_end n (λ i. f (suc i))) ≡ drop (i * record_bytes) (drop record_bytes (f zero ++ end_to_end n (λ i. f (suc i))))
    skip =
        let e : suc i * record_bytes ≡ record_bytes + i * record_bytes = omega arith in
        ap (λ (z : ℕ). drop z (f zero ++ end_to_end n (λ i. f (suc i)))) e ∙ sym (drop-drop (i * record_bytes) record_bytes (f zero ++ end_to_end n (λ i. f (suc i))))

-- ---- zeros

pub zeros : (n : ℕ) → tabulate n (λ (i : ℕ). 0) ≡ replicate {A = ℕ} n 0
unfolding tabulate
zeros zero = refl
zeros (suc n) = ap (λ (x : List ℕ). 0 ∷ x) (zeros n)

pub zero_long : length zero_record ≡ record_bytes
unfolding zero_record
zero_long = length-replicate {A = ℕ} record_bytes 0

pub zero_is : zero_record ≡ replicate record_bytes 0
unfolding zero_record
zero_is = refl

pub cleared : (part part' : List ℕ) → length part ≡ record_bytes → part' ≡ replicate (length part) 0 → part' ≡ zero_record
unfolding zero_record
cleared part part' h e = e ∙ ap (λ (n : ℕ). replicate n 0) h

pub zero_part : (n i : ℕ) → i * record_bytes + record_bytes ≤ n → record_at (replicate n 0) i ≡ zero_record
unfolding zero_record
zero_part n i h = ext_get_or 0 (record_at (replicate n 0) i) (replicate record_bytes 0) (long ∙ sym (length-replicate {A = ℕ} record_bytes 0)) same
  where
    long : length (record_at (replicate n 0) i) ≡ record_bytes
    long =
        length-take-le record_bytes (drop (i * record_bytes) (replicate n 0))
        (omega (arith, length-drop {A = ℕ} (i * record_bytes) (replicate n 0), length-replicate {A = ℕ} n 0))

    same : (j : ℕ) → j < length (record_at (replicate n 0) i) → at (record_at (replicate n 0) i) j ≡ at (replicate record_bytes 0) j
    same j l =
        let b : j < record_bytes = omega (arith, long) in
        get_or-take record_bytes (drop (i * record_bytes) (replicate n 0)) j 0 b ∙ get_or-drop (i * record_bytes) (replicate n 0) j 0
        ∙ get_or-replicate n (i * record_bytes + j) 0 0 (omega arith)
        ∙ sym (get_or-replicate record_bytes j 0 0 b)

-- ---- query i, as the code cuts it out

pub cut_query : (queries : List ℕ) (i : ℕ) → take (i * query_bytes + query_bytes - i * query_bytes) (drop (i * query_bytes) queries) ≡ query_at queries i
cut_query queries i =
    let e : i * query_bytes + query_bytes - i * query_bytes ≡ query_bytes = omega arith in
    ap (λ (n : ℕ). take n (drop (i * query_bytes) queries)) e
