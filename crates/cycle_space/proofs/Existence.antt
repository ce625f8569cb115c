-- Sound rings exist, as many as there are closing pipes, and are a basis, so what is proved of rings is proved of something; and every basis has as many members. Assumes nothing.
use Rattle.std.proofs.Common.{◌≡◌, ℕ, zero, suc, ◌≤◌, Bool, true, cond, ◌&&◌, ltb, List, length, get_or, sym, refl, ◌∙◌, subst, arith}
use native.Mathlib.Decide.{dec_lt}
use Rattle.std.proofs.lemmas.List.FromFn.{length-map-range_with_len}
use Rattle.std.proofs.lemmas.Bool.Decides.{nat_tests}
use Rattle.cycle_space.specs.Rows.{Row, bit, empty, sum, odd}
use Rattle.cycle_space.specs.Shapes.{Shape, Due}
use Rattle.cycle_space.specs.Bases.{Basis}
use Rattle.cycle_space.specs.Supports.{rank, alone, Sound, Extended, BasesExist, ClosingPipesTell, BasesHaveDueSize}
use Rattle.cycle_space.proofs.Folds.{dot_add}
use Rattle.cycle_space.proofs.Bits.{known_by_bits, empty_bit, empty_row}
use Rattle.cycle_space.proofs.Counting.{listed, listed_at}
use Rattle.cycle_space.proofs.Due.{due_rank}
use Rattle.cycle_space.proofs.Bases.{put}
use Rattle.cycle_space.proofs.Exchanges.{kept, put_at, exchange}
use Rattle.cycle_space.proofs.Counts.{same_size}
use Rattle.cycle_space.proofs.Closings.{separation}
use Rattle.cycle_space.proofs.Spaces.{space, of_row, to_spans}
use Rattle.cycle_space.proofs.Supports.{due_ring, sound_rings}
use Rattle.cycle_space.proofs.Keeping.{sound_alone, sound_next}
use Rattle.cycle_space.proofs.Props.{as_rings}
use Rattle.cycle_space.proofs.Lists.{basis_when_full}

-- the supports after the ring c is found: the later ones made even against it
abbrev turn : ℕ → (ℕ → Row) → Row → ℕ → Row
turn k support c i = cond (ltb k i && odd c (support i)) (sum (support i) (support k)) (support i)

turn_extends : (k : ℕ) (support : ℕ → Row) (c : Row) → Extended k support c (turn k support c)
turn_extends k support c = record {
  earlier_stay = λ i l. grind (arith, nat_tests);
  even_stay = λ i l e. grind (arith, nat_tests);
  odd_turn = λ i l o. grind (arith, nat_tests);
}

-- one ring after the other
reach : (N : Shape) → N.pipes ≤ 256 → (k : ℕ) → k ≤ rank N → (ring : ℕ → Row) × (support : ℕ → Row) × Sound N k ring support
reach N few zero l = ((λ _. empty), alone N, sound_alone N (λ _. empty) few)
reach N few (suc k) l =
    let r = reach N few k (omega arith) in
    let ring = r.0 in
    let support = r.1 in
    let s = r.2 in
    let o = due_ring N k ring support s l in
    let c : Row = o.0 in (
      put ring k c,
      turn k support c,
      sound_next N k ring support s c o.1 o.2 l
          (put ring k c) (λ i il. kept ring k c i il) (put_at ring k c) (turn k support c) (turn_extends k support c),
    )

pub sound_bases_exist : (N : Shape) → N.pipes ≤ 256
    → (rows : List Row) × (support : ℕ → Row) × (length rows ≡ rank N) × Sound N (length rows) (λ i. get_or rows i empty) support × Basis N rows
sound_bases_exist N few =
    let r = reach N few (rank N) (omega arith) in
    let rows : List Row = listed (rank N) r.0 in
    let long : length rows ≡ rank N = length-map-range_with_len r.0 0 (rank N) in
    let s : Sound N (length rows) (λ i. get_or rows i empty) r.1 =
    subst (λ k. Sound N k (λ i. get_or rows i empty) r.1) (sym long) (as_rings (λ i l. sym (listed_at (rank N) r.0 empty i l)) r.2) in
    (rows, r.1, long, s, basis_when_full N rows r.1 s long)

pub bases_exist : BasesExist
bases_exist N few = let r = sound_bases_exist N few in (r.0, r.2, r.4)

pub closing_pipes_tell : ClosingPipesTell
closing_pipes_tell N few x c h =
    let cycle = of_row N x c in
    known_by_bits x empty c.of_pipes.words empty_row
    (λ j _. elim (dec_lt j N.pipes) [ yes l ↦ separation N (bit x) cycle.closed h j l | no l ↦ cycle.bounded j (omega arith) ] ∙ sym (empty_bit j))

-- the rings of a sound list can be exchanged into any basis, so both have one size
pub bases_have_due_size : BasesHaveDueSize
bases_have_due_size N g few rival b =
    let r = sound_bases_exist N few in
    let ours = r.0 in
    let rings = sound_rings N (length ours) (λ i. get_or ours i empty) r.1 r.3 {V = Bool} (λ _ _. true) (λ _. true) (λ _ _ _ _ _. refl) in
    let ex = exchange (space N) (λ i. dot_add 256 (bit (r.1 i))) rings (to_spans N few rival b) in
    subst (Due N) (sym (same_size (space N) (to_spans N few ours r.4) ex.1 ∙ r.2)) (due_rank N g)
