-- Laws of a choice by a test.
-- Assumes nothing.
use mathlib.Core.Path.{◌≡◌, ap}
use mathlib.Core.Bool.{Bool, true, false}
use Rattle.lists.specs.Choice.{pick}

pub picked {ℓ} : {A : Type ℓ} {t : Bool} (a b : A) → t ≡ true → pick t a b ≡ a
picked a b h = ap (λ (t : Bool). pick t a b) h

pub passed {ℓ} : {A : Type ℓ} {t : Bool} (a b : A) → t ≡ false → pick t a b ≡ b
passed a b h = ap (λ (t : Bool). pick t a b) h
