-- A choice by a test.
use Rattle.std.specs.Prelude.{Bool, true, false}

-- the first where the test is true, else the second
abbrev pub choose {ℓ} : {A : Type ℓ} → Bool → A → A → A
choose true a b = a
choose false a b = b
