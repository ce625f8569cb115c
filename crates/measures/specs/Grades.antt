-- Grades: numbers below 2 ^ 8, of which the higher counts. Assumes nothing.
use Rattle.std.specs.Prelude.{ℕ, ◌^◌, ◌<◌, min, max, Bool, nat_le}
use Rattle.std.proofs.Common.{arith}
use Rattle.measures.specs.declared.grades.Grade.{Grade}

pub topped_fits : (n : ℕ) → min n 255 < 2 ^ 8
topped_fits n = omega arith

-- the grade of a number, or the greatest where the number is past that
abbrev pub topped : ℕ → Grade
topped n = record { value = min n 255; fits = topped_fits n }

-- the zero
abbrev pub no_grade : Grade
no_grade = topped 0

-- the ceiling
abbrev pub greatest_grade : Grade
greatest_grade = topped 255

pub higher_fits : (a b : Grade) → max a.value b.value < 2 ^ 8
higher_fits a b = omega arith

-- the join: the maximum
abbrev pub higher : Grade → Grade → Grade
higher a b = record { value = max a.value b.value; fits = higher_fits a b }

-- at most: the order of the numbers
abbrev pub not_higher : Grade → Grade → Bool
not_higher a b = nat_le a.value b.value
