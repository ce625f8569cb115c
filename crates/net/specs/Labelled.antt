-- The labels that the program keeps. Assumes nothing.
use Rattle.std.specs.Prelude.{ℕ, ◌<◌, ◌==◌, slice_index, count_by}
use Rattle.std.specs.List.{range_with_len}
use Rattle.net.specs.declared.labels.Labels.{Labels}
use Rattle.cycle_space.specs.declared.ends.Ends.{Ends}

-- both ends have places among the labels
pub record HavePlaces (e : Ends) : Type 0 where
  pub first_in : e.first < 65
  pub second_in : e.second < 65

-- the label of the node v
abbrev pub labelled : Labels → ℕ → ℕ
labelled l v = slice_index l.of v

-- how many of the nodes 1 to n are their own label
abbrev pub own_labels : Labels → ℕ → ℕ
own_labels l n = count_by (λ v. labelled l v == v) (range_with_len 1 n)
