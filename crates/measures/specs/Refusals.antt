-- Refusals: the number of each, and its words. Assumes nothing.
use Rattle.std.specs.Prelude.{ℕ, List, codes}
use Rattle.measures.specs.declared.refusal.Refusal.{Refusal}
use Rattle.measures.specs.declared.refusal.Refusal.TheVariants.{FileNumberTooGreat}

-- the number by which a refusal is known
abbrev pub number : Refusal → ℕ
number FileNumberTooGreat = 9

-- the reason, in words, as ASCII bytes
abbrev pub words : Refusal → List ℕ
words FileNumberTooGreat = codes "the file number is above the measure's greatest"
