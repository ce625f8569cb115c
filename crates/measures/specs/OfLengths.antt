-- Lengths keep the laws of a measure. Assumes nothing.
use Rattle.std.proofs.Common.{arith}
use Rattle.std.proofs.lemmas.Bool.Decides.{nat_tests}
use Rattle.measures.specs.Laws.{Laws}
use Rattle.measures.specs.Lengths.{no_length, greatest_length, together, not_longer}
use Rattle.measures.specs.Same.{same_length}

pub length_laws : Laws no_length greatest_length together not_longer
length_laws = record {
  assoc = λ a b c. same_length _ _ (omega arith);
  comm = λ a b. same_length _ _ (omega arith);
  neutral = λ a. same_length _ _ (omega arith);
  total = λ a b. grind (arith, nat_tests);
  trans = λ a b c p q. grind (arith, nat_tests);
  least = λ a. grind (arith, nat_tests);
  greatest = λ a. grind (arith, nat_tests);
}
