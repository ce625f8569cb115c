-- Lengths: numbers below 2 ^ 64, whose sum stops at the greatest of them. Assumes nothing.
use Rattle.std.specs.Prelude.{ℕ, ◌+◌, ◌^◌, ◌<◌, min, Bool, nat_le}
use Rattle.std.proofs.Common.{arith}
use Rattle.measures.specs.declared.lengths.Length.{Length}

-- the greatest number of 64 bits
abbrev pub greatest_value : ℕ
greatest_value = 18446744073709551615

pub capped_fits : (n : ℕ) → min n greatest_value < 2 ^ 64
capped_fits n = omega arith

-- the length of a number, or the greatest where the number is past that
abbrev pub capped : ℕ → Length
capped n = record { value = min n greatest_value; fits = capped_fits n }

-- the zero
abbrev pub no_length : Length
no_length = capped 0

-- the ceiling
abbrev pub greatest_length : Length
greatest_length = capped greatest_value

-- the join: the saturating sum
abbrev pub together : Length → Length → Length
together a b = capped (a.value + b.value)

-- at most: the order of the numbers
abbrev pub not_longer : Length → Length → Bool
not_longer a b = nat_le a.value b.value
