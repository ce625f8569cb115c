-- What is seen of a net, by what every net keeps. Assumes nothing.
use Rattle.std.proofs.Common.{◌≡◌, ℕ, ◌+◌, ◌-◌, ◌<◌, ◌≤◌, List, map, length, get_or, take, drop, sym, refl, ap, ◌∙◌, subst, ap₂, arith}
use Rattle.std.proofs.lemmas.List.{length-map, length-take-le, get_or-map, get_or-take, take_all}
use Rattle.cycle_space.specs.Rows.{empty}
use Rattle.cycle_space.specs.Shapes.{Shape, EndsAreNodes, Parts, Due}
use Rattle.cycle_space.proofs.Due.{parts_few, parts_enough}
use Rattle.cycle_space.specs.Moments.{drawn, shape, weights}
use Rattle.net.specs.Keeps.{Joins, nowhere, laid_out, no_pipes, row_at}
use Rattle.net.specs.Views.{view, rings}
use Rattle.net.specs.Labelled.{HavePlaces}
use Rattle.cycle_space.specs.declared.ends.Ends.{Ends}
use Rattle.net.specs.declared.net.Net.{Net}
use Rattle.net.proofs.Keeping.{laid_pipes}
use Rattle.net.proofs.Views.{as_many, seen_length, ends_seen, weighed}

-- a list from its first place on is that list
pub from_first : {A : Type 0} (k : ℕ) (xs ys : List A) → k ≡ 0 → xs ≡ ys → take (length xs - k) (drop k xs) ≡ ys
from_first k xs ys first same =
    ap (λ j. take (length xs - j) (drop j xs)) first ∙ take_all (length xs - 0) xs (omega arith) ∙ same

module _ {M : Type 0} (n : Net M) where
  pub ends_for_all : n.tables.pipes ≤ length n.tables.ends
  ends_for_all = let k = n.keeps in let p = k.places.0 in let q = k.few_pipes in omega arith

  pub pipes_seen : length (view n).pipes ≡ n.tables.pipes
  pipes_seen = seen_length n.tables.nodes n.tables.pipes n.tables.ends n.column.now ends_for_all n.fits

  pub laid_few : (laid_out n.tables).pipes ≡ n.tables.pipes
  laid_few = laid_pipes n.tables ends_for_all

  pub rings_seen : length (rings n) ≡ n.tables.found
  rings_seen =
      let p = n.keeps.places.1 in
      let few = n.keeps.few_rings in
      length-map (take n.tables.found n.tables.rows) (λ r. r.words) ∙ length-take-le n.tables.found n.tables.rows (omega arith)

  pub shape_pipes : (shape (view n)).pipes ≡ n.tables.pipes
  shape_pipes = length-map (view n).pipes (λ p. p.first) ∙ pipes_seen

  equal : length (take n.tables.pipes n.tables.ends) ≡ length (take n.tables.pipes n.column.now)
  equal = as_many n.tables.nodes n.tables.pipes n.tables.ends n.column.now ends_for_all n.fits

  -- an end of a pipe that is seen stands in the table
  at_place : (f : Ends → ℕ) (j : ℕ) → j < n.tables.pipes → get_or (map f (take n.tables.pipes n.tables.ends)) j 0 ≡ f (get_or n.tables.ends j nowhere)
  at_place f j l =
      let m = length-take-le n.tables.pipes n.tables.ends ends_for_all in
      get_or-map f (take n.tables.pipes n.tables.ends) j nowhere 0 (omega arith) ∙ ap f (get_or-take n.tables.pipes n.tables.ends j nowhere l)

  pub first_seen : (j : ℕ) → j < n.tables.pipes → (shape (view n)).first j ≡ (get_or n.tables.ends j nowhere).first
  first_seen j l = ap (λ xs. get_or xs j 0) (ends_seen (λ p. p.first) (λ e. e.first) (λ e w. refl) _ _ equal) ∙ at_place (λ e. e.first) j l

  pub second_seen : (j : ℕ) → j < n.tables.pipes → (shape (view n)).second j ≡ (get_or n.tables.ends j nowhere).second
  second_seen j l = ap (λ xs. get_or xs j 0) (ends_seen (λ p. p.second) (λ e. e.second) (λ e w. refl) _ _ equal) ∙ at_place (λ e. e.second) j l

  pub weights_many : length (weights (view n)) ≡ n.tables.pipes
  weights_many = length-map (view n).pipes (λ p. p.weight) ∙ pipes_seen

  pub weights_seen : weights (view n) ≡ take n.tables.pipes n.column.now
  weights_seen = weighed _ _ equal

  pub ends_are_nodes : EndsAreNodes (shape (view n))
  ends_are_nodes j l =
      let m : j < n.tables.pipes = (let e = shape_pipes in omega arith) in
      let k = n.keeps.joined j m in
      (subst (λ v. (1 ≤ v) × (v ≤ n.tables.nodes)) (sym (first_seen j m)) k.first_in, subst (λ v. (1 ≤ v) × (v ≤ n.tables.nodes)) (sym (second_seen j m)) k.second_in)

  -- what is seen is the shape of the tables
  pub view_shape : shape (view n) ≡ laid_out n.tables
  view_shape =
      ap₂ (λ (xs ys : List ℕ). drawn n.tables.nodes xs ys)
      (ends_seen (λ p. p.first) (λ e. e.first) (λ e w. refl) _ _ equal) (ends_seen (λ p. p.second) (λ e. e.second) (λ e w. refl) _ _ equal)

  -- a ring that is seen stands in the table
  pub ring_seen : (i : ℕ) → i < n.tables.found → get_or (rings n) i empty ≡ row_at n.tables.rows i
  ring_seen i l =
      let few = n.keeps.few_rings in
      let p = n.keeps.places.1 in
      let m = length-take-le n.tables.found n.tables.rows (omega arith) in
      get_or-map (λ r. r.words) (take n.tables.found n.tables.rows) i no_pipes empty (omega arith)
      ∙ ap (λ r. r.words) (get_or-take n.tables.found n.tables.rows i no_pipes l)

  -- the pipe at the place j has these ends
  pub record LaidAt (j : ℕ) (e : Ends) : Type 0 where
    pub first : (shape (view n)).first j ≡ e.first
    pub second : (shape (view n)).second j ≡ e.second
    pub joins : Joins n.tables.nodes e
    pub have_places : HavePlaces e

  module _ (laid : List Ends) where
    pub laid_long : laid ≡ take n.tables.pipes n.tables.ends → length laid ≡ n.tables.pipes
    laid_long are = ap length are ∙ length-take-le n.tables.pipes n.tables.ends ends_for_all

    pub laid_all : (j : ℕ) → length laid ≤ j → j ≤ length laid → laid ≡ take n.tables.pipes n.tables.ends → j ≡ (shape (view n)).pipes
    laid_all j over within are = omega (arith, laid_long are, shape_pipes)

    pub laid_at : (j : ℕ) → j < length laid → laid ≡ take n.tables.pipes n.tables.ends → LaidAt j (get_or laid j nowhere)
    laid_at j l are =
        let h : j < n.tables.pipes = omega (arith, laid_long are) in
        let read : get_or n.tables.ends j nowhere ≡ get_or laid j nowhere = sym (ap (λ es. get_or es j nowhere) are ∙ get_or-take n.tables.pipes n.tables.ends j nowhere h) in
        let joins : Joins n.tables.nodes (get_or laid j nowhere) = subst (Joins n.tables.nodes) read (n.keeps.joined j h) in
        let few = n.keeps.few_nodes in
        let a = joins.first_in.1 in
        let b = joins.second_in.1 in
        record {
          first = first_seen j h ∙ ap (λ e. e.first) read;
          second = second_seen j h ∙ ap (λ e. e.second) read;
          joins = joins;
          have_places = record { first_in = omega arith; second_in = omega arith };
        }

  -- what the number of rings that are due is reckoned from
  pub record Reckoned (pipes parts nodes : ℕ) : Type 0 where
    pub few : pipes + parts ≤ 320
    pub enough : nodes ≤ pipes + parts
    pub due : Due (shape (view n)) (pipes + parts - nodes)

  pub reckoned : (pipes parts nodes : ℕ) → pipes ≡ length (view n).pipes → Parts (shape (view n)) parts → nodes ≡ n.tables.nodes → Reckoned pipes parts nodes
  reckoned pipes parts nodes ps counted ns =
      let N : Shape = shape (view n) in
      let few = n.keeps.few_nodes in
      let most = n.keeps.few_pipes in
      let seen = pipes_seen in
      let same = shape_pipes in
      let over = parts_few N ends_are_nodes parts counted in
      let enough = parts_enough N ends_are_nodes parts counted in
      record { few = omega arith; enough = omega arith; due = (parts, counted, omega arith) }
