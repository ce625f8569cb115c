-- Labels: how parts are told. Each node begins with its own number; as a pipe is laid, the nodes with the greater of the labels of its two
-- ends get the smaller. Assumes nothing.
use Rattle.std.specs.Prelude.{◌≡◌, ℕ, zero, suc, ◌≤◌, min, max, Bool, cond, ◌↔◌, ◌==◌}
use Rattle.cycle_space.specs.Shapes.{Shape, Run}

-- the label l, after a pipe between nodes with the labels p and q
abbrev pub relabel : ℕ → ℕ → ℕ → ℕ
relabel p q l = cond (l == max p q) (min p q) l

-- the label of the node v after the first k pipes
abbrev pub label : Shape → ℕ → ℕ → ℕ
label N zero v = v
label N (suc k) v = relabel (label N k (N.first k)) (label N k (N.second k)) (label N k v)

-- whether the pipe at the place j is closing: its ends have one label after the pipes before it
abbrev pub closes : Shape → ℕ → Bool
closes N j = label N j (N.first j) == label N j (N.second j)

-- What is proved of them.

-- two nodes have one label exactly where a run of the first k pipes joins them; a label is the lowest node of its part
abbrev pub LabelsTellParts : Type 0
LabelsTellParts =
    (N : Shape) (k : ℕ)
    → ((u v : ℕ) → (label N k u ≡ label N k v) ↔ Run N k u v)
    × ((v : ℕ) → label N k v ≤ v)
    × ((v : ℕ) → label N k (label N k v) ≡ label N k v)
