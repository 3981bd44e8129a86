-- How to tell a test's answer, and what it told. Assumes nothing.
use Rattle.std.specs.Prelude.{◌≡◌, refl, Bool, true, false}
use Rattle.std.proofs.Common.{subst}
use Rattle.plant.specs.Reflect.{Is}

pub tell_yes : {P : Type 0} → P → Is true P
tell_yes p = record { holds = λ _. p; passes = λ _. tt }

pub tell_no : {P : Type 0} → ¬ P → Is false P
tell_no n = record { holds = λ t. absurd t; passes = λ p. absurd (n p) }

pub told_yes : {b : Bool} {P : Type 0} → Is b P → b ≡ true → P
told_yes {b} {P} r e = (subst (λ (x : Bool). Is x P) e r).holds tt

pub told_no : {b : Bool} {P : Type 0} → Is b P → b ≡ false → ¬ P
told_no {b} {P} r e p = (subst (λ (x : Bool). Is x P) e r).passes p

-- two tests of one thing
pub same_test : {a b : Bool} {P : Type 0} → Is a P → Is b P → a ≡ b
same_test {a} {b} {P} r s = go a b r s
  where
    go : (a b : Bool) → Is a P → Is b P → a ≡ b
    go true true r s = refl
    go true false r s = absurd (s.passes (r.holds tt))
    go false true r s = absurd (r.passes (s.holds tt))
    go false false r s = refl
