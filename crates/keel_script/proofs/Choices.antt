-- What follows from the answer of a test or of a step that may fail.
use Rattle.std.proofs.Common.{◌≡◌, Bool, true, false, cond, ◌&&◌, ◌⊎◌, Option, Some, None, refl, inl, inr}
use Rattle.keel_script.specs.Reading.{◌>>=◌}

-- which way a choice went
pub chosen : {A : Type 0} (test : Bool) (x y z : A) → cond test x y ≡ z → ((test ≡ true) × (x ≡ z)) ⊎ ((test ≡ false) × (y ≡ z))
chosen true x y z e = inl (refl, e)
chosen false x y z e = inr (refl, e)

-- a choice between something and nothing that gave something
pub only_if : {A : Type 0} (test : Bool) (o : Option A) (z : A) → cond test o None ≡ Some z → (test ≡ true) × (o ≡ Some z)
only_if true o z e = (refl, e)
only_if false o z e = cc

pub both : (a b : Bool) → (a && b) ≡ true → (a ≡ true) × (b ≡ true)
both true true e = (refl, refl)
both true false e = cc
both false b e = cc

-- a step that gave something, and what was made of it
pub stepped : {A B : Type 0} (o : Option A) (f : A → Option B) (y : B) → (o >>= f) ≡ Some y → (x : A) × (o ≡ Some x) × (f x ≡ Some y)
stepped None f y e = cc
stepped (Some x) f y e = (x, refl, e)

pub same_some : {A : Type 0} (x y : A) → Some x ≡ Some y → x ≡ y
same_some x y e = cc

pub which : (test : Bool) → (test ≡ true) ⊎ (test ≡ false)
which true = inl refl
which false = inr refl

-- the second of three, by two tests
pub second : {A : Type 0} (a b : Bool) (x y z : A) → a ≡ false → b ≡ true → cond a x (cond b y z) ≡ y
second false true x y z first other = refl
second false false x y z first other = cc
second true b x y z first other = cc

pub third : {A : Type 0} (a b : Bool) (x y z : A) → a ≡ false → b ≡ false → cond a x (cond b y z) ≡ z
third false false x y z first other = refl
third false true x y z first other = cc
third true b x y z first other = cc

-- a step that gave something, handed on
pub by_step : {A B P : Type 0} (o : Option A) (f : A → Option B) (y : B) → (o >>= f) ≡ Some y → ((x : A) → o ≡ Some x → f x ≡ Some y → P) → P
by_step None f y e on = cc
by_step (Some x) f y e on = on x refl e

pub if_true : {A : Type 0} (test : Bool) (x y : A) → test ≡ true → cond test x y ≡ x
if_true true x y is = refl
if_true false x y is = cc

pub if_false : {A : Type 0} (test : Bool) (x y : A) → test ≡ false → cond test x y ≡ y
if_false false x y is = refl
if_false true x y is = cc
