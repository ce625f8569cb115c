use Rattle.std.proofs.Common.{sym, ◌∙◌, arith}
use Rattle.measures.specs.Grades.{topped}
use Rattle.measures.specs.Same.{same_grade}
use Rattle.measures.proofs.OfNumbers.{small, made}
use Rattle.measures.proofs.grades.GradeFileMeasure.of_number.Goals as goal

pub returns-clause-meant : goal.returns-clause-meant
returns-clause-meant c =
    let read = sym c.in_ok-value.was ∙ c.up_to.ensures in
    let few = small 255 _ _ read in
    made topped 255 _ _ read (same_grade _ _ (omega arith))
