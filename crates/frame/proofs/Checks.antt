-- Tests, and what follows from how they come out.
use Rattle.std.proofs.Common.{◌≡◌, ℕ, ◌≤◌, Bool, true, false, cond, ◌&&◌, eqb, leb, ◌⊎◌, Some, None, Option, refl, inl, inr, arith}
use Rattle.std.proofs.lemmas.Bool.Decides.{nat_tests}

pub le_gives : (m n : ℕ) → leb m n ≡ true → m ≤ n
le_gives m n h = grind (arith, nat_tests)

pub le_is : (m n : ℕ) → m ≤ n → leb m n ≡ true
le_is m n h = grind (arith, nat_tests)

pub eq_gives : (m n : ℕ) → eqb m n ≡ true → m ≡ n
eq_gives m n h = grind (arith, nat_tests)

pub eq_is : (m n : ℕ) → m ≡ n → eqb m n ≡ true
eq_is m n h = grind (arith, nat_tests)

pub ne_gives : (m n : ℕ) → eqb m n ≡ false → m ≡ n → ⊥
ne_gives m n h e = grind (arith, nat_tests)

pub ne_is : (m n : ℕ) → (m ≡ n → ⊥) → eqb m n ≡ false
ne_is m n h = grind (arith, nat_tests)

pub clash : {A : Type 0} (b : Bool) → b ≡ true → b ≡ false → A
clash b p q = let z : ◌≡◌ {A = ℕ} 0 1 = cc in absurd (omega arith)

-- a test of two parts
pub both_true : (a b : Bool) → a && b ≡ true → (a ≡ true) × (b ≡ true)
both_true true b h = (refl, h)
both_true false b h = let z : ◌≡◌ {A = ℕ} 0 1 = cc in absurd (omega arith)

-- the two ways of a test
pub two_ways : (b : Bool) → (b ≡ true) ⊎ (b ≡ false)
two_ways true = inl refl
two_ways false = inr refl

pub cond_true : {A : Type 0} (b : Bool) (x y : A) → b ≡ true → cond b x y ≡ x
cond_true true x y h = refl
cond_true false x y h = let z : ◌≡◌ {A = ℕ} 0 1 = cc in absurd (omega arith)

pub cond_false : {A : Type 0} (b : Bool) (x y : A) → b ≡ false → cond b x y ≡ y
cond_false true x y h = let z : ◌≡◌ {A = ℕ} 0 1 = cc in absurd (omega arith)
cond_false false x y h = refl

pub option_ways : {A : Type 0} (o : Option A) → (o ≡ None) ⊎ ((x : A) × (o ≡ Some x))
option_ways None = inl refl
option_ways (Some x) = inr (x, refl)
