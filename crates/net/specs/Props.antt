-- What the tables of every net keep is a proposition. Assumes nothing.
use Rattle.std.proofs.Common.{ℕ}
use mathlib.Core.HLevel.{Π_prop, ×_prop, ×₃_prop, ⊥_prop}
use native.Mathlib.Nat.{ℕ_set}
use Rattle.std.proofs.Math.Bridge.{le_prop}
use Rattle.cycle_space.specs.Props.{sound_prop}
use Rattle.net.specs.Keeps.{Joins, Keeps}
use Rattle.net.specs.declared.tables.Tables.{Tables}
use Rattle.cycle_space.specs.declared.ends.Ends.{Ends}

joins_prop : {nodes : ℕ} {e : Ends} → IsProp (Joins nodes e)
joins_prop x y i = record {
  first_in = ×_prop le_prop le_prop x.first_in y.first_in i;
  second_in = ×_prop le_prop le_prop x.second_in y.second_in i;
  apart = Π_prop (λ _. ⊥_prop) x.apart y.apart i;
}

pub keeps_prop : (t : Tables) → IsProp (Keeps t)
keeps_prop t x y i = record {
  places = ×₃_prop (ℕ_set _ _) (ℕ_set _ _) (ℕ_set _ _) x.places y.places i;
  few_nodes = le_prop x.few_nodes y.few_nodes i;
  few_pipes = le_prop x.few_pipes y.few_pipes i;
  few_rings = le_prop x.few_rings y.few_rings i;
  joined = Π_prop (λ j. Π_prop (λ l. joins_prop)) x.joined y.joined i;
  sound = sound_prop x.sound y.sound i;
}
