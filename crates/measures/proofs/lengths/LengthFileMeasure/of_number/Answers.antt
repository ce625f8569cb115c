use Rattle.std.proofs.Common.{sym, ◌∙◌, arith}
use Rattle.measures.specs.Lengths.{capped}
use Rattle.measures.specs.Same.{same_length}
use Rattle.measures.proofs.OfNumbers.{small, made}
use Rattle.measures.proofs.lengths.LengthFileMeasure.of_number.Goals as goal

pub returns-clause-meant : goal.returns-clause-meant
returns-clause-meant c =
    let read = sym c.in_ok-value.was ∙ c.up_to.ensures in
    let few = small 1000000000 _ _ read in
    made capped 1000000000 _ _ read (same_length _ _ (omega arith))
