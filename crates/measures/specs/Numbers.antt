-- What a file's number is read as. Assumes nothing.
use Rattle.std.specs.Prelude.{ℕ, cond, Ok, Err, Result, nat_le}
use Rattle.measures.specs.declared.refusal.Refusal.{Refusal}
use Rattle.measures.specs.declared.refusal.Refusal.TheVariants.{FileNumberTooGreat}

-- up to the greatest, the value that the number stands for; a greater one is declined
abbrev pub Read : {M : Type 0} → (ℕ → M) → ℕ → ℕ → Result M Refusal
Read standing greatest number = cond (nat_le number greatest) (Ok (standing number)) (Err FileNumberTooGreat)
