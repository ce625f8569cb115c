-- Two lengths, or two grades, with one number are equal: that it fits has one proof at most. Assumes nothing.
use Rattle.std.specs.Prelude.{◌≡◌, ◌^◌, ◌<◌}
use mathlib.Core.HLevel.{is_prop→PathP}
use Rattle.std.proofs.Math.Bridge.{le_prop}
use Rattle.measures.specs.declared.grades.Grade.{Grade}
use Rattle.measures.specs.declared.lengths.Length.{Length}

pub same_length : (u v : Length) → u.value ≡ v.value → u ≡ v
same_length u v e = λ j. record { value = e j; fits = is_prop→PathP (λ k. e k < 2 ^ 64) (λ k. le_prop) u.fits v.fits j }

pub same_grade : (u v : Grade) → u.value ≡ v.value → u ≡ v
same_grade u v e = λ j. record { value = e j; fits = is_prop→PathP (λ k. e k < 2 ^ 8) (λ k. le_prop) u.fits v.fits j }
