-- The numbers by which refusals are known, and which of several is given. Assumes nothing.
use Rattle.std.specs.Prelude.{ℕ, ◌≤◌, List, codes}
use Rattle.net.specs.declared.refusal.Refusal.{Refusal}
use Rattle.net.specs.declared.refusal.Refusal.TheVariants.{NodesFull, NoSuchNode, OneNode, PipesFull, NoSuchPipe, Complete, ScratchTooShort, NoSuchRing}

-- the number by which a refusal is known
abbrev pub number : Refusal → ℕ
number NodesFull = 1
number NoSuchNode = 2
number OneNode = 3
number PipesFull = 4
number NoSuchPipe = 5
number Complete = 6
number ScratchTooShort = 7
number NoSuchRing = 8

-- the reason, in words, as ASCII bytes
abbrev pub words : Refusal → List ℕ
words NodesFull = codes "there are 64 nodes already"
words NoSuchNode = codes "an end is no node"
words OneNode = codes "both ends are one node"
words PipesFull = codes "there are 256 pipes already, or the column is full"
words NoSuchPipe = codes "there is no such pipe"
words Complete = codes "all due rings are found"
words ScratchTooShort = codes "the scratch has too few places"
words NoSuchRing = codes "no such ring is found"

-- no refusal applies
abbrev pub NoneApplies : (Refusal → Type 0) → Type 0
NoneApplies Applies = (e : Refusal) → Applies e → ⊥

-- of the refusals that apply, the one with the smallest number
pub record Smallest (Applies : Refusal → Type 0) (e : Refusal) : Type 0 where
  pub applies : Applies e
  pub least : (f : Refusal) → Applies f → number e ≤ number f
