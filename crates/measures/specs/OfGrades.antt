-- Grades keep the laws of a measure. Assumes nothing.
use Rattle.std.proofs.Common.{arith}
use Rattle.std.proofs.lemmas.Bool.Decides.{nat_tests}
use Rattle.measures.specs.Laws.{Laws}
use Rattle.measures.specs.Grades.{no_grade, greatest_grade, higher, not_higher}
use Rattle.measures.specs.Same.{same_grade}

pub grade_laws : Laws no_grade greatest_grade higher not_higher
grade_laws = record {
  assoc = λ a b c. same_grade _ _ (omega arith);
  comm = λ a b. same_grade _ _ (omega arith);
  neutral = λ a. same_grade _ _ (omega arith);
  total = λ a b. grind (arith, nat_tests);
  trans = λ a b c p q. grind (arith, nat_tests);
  least = λ a. grind (arith, nat_tests);
  greatest = λ a. grind (arith, nat_tests);
}
