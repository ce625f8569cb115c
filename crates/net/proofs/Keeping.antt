-- How the tables of a net stay as they must be. Assumes nothing.
use Rattle.std.proofs.Common.{◌≡◌, ℕ, suc, ◌+◌, ◌<◌, ◌≤◌, true, cond, eqb, List, length, get_or, take, set, sym, refl, ap, ◌∙◌, subst, arith, eq-eqb, ne_eqb}
use native.Mathlib.Decide.{ℕ_discrete}
use Rattle.std.proofs.lemmas.List.{length-map, length-take-le, length-set, get_or-set_same, get_or-set_other}
use Rattle.cycle_space.specs.declared.ends.Ends.{Ends}
use Rattle.cycle_space.specs.Rows.{Row, odd}
use Rattle.cycle_space.specs.Labels.{closes}
use Rattle.cycle_space.specs.Bases.{Closed}
use Rattle.cycle_space.specs.Supports.{rank, alone, Sound, Extended}
use Rattle.net.specs.Keeps.{Joins, Keeps, nowhere, laid_out, row_at, supports_of}
use Rattle.net.specs.declared.tables.StoredRow.{StoredRow}
use Rattle.net.specs.declared.tables.Tables.{Tables}
use Rattle.cycle_space.proofs.Keeping.{sound_alone, alone_same, sound_nodes, sound_next}
use Rattle.cycle_space.proofs.Props.{as_supports}
use Rattle.cycle_space.proofs.Counting.{count_le}

-- before the first ring the supports are the closing pipes, and then they stand in their table
pub supports_before : (t : Tables) (i : ℕ) → t.found ≡ 0 → supports_of t i ≡ alone (laid_out t) i
supports_before t i e = ap (λ b. cond b (alone (laid_out t) i) (row_at t.supports i)) (eq-eqb t.found 0 e)

pub supports_stored : (t : Tables) (i : ℕ) → (t.found ≡ 0 → ⊥) → supports_of t i ≡ row_at t.supports i
supports_stored t i e = ap (λ b. cond b (alone (laid_out t) i) (row_at t.supports i)) (ne_eqb t.found 0 e)

-- so many pipes are laid out
pub laid_pipes : (t : Tables) → t.pipes ≤ length t.ends → (laid_out t).pipes ≡ t.pipes
laid_pipes t l = length-map (take t.pipes t.ends) (λ e. e.first) ∙ length-take-le t.pipes t.ends l

-- without rings
sound_begun : (t : Tables) → length t.ends ≡ 256 → t.pipes ≤ 256 → t.found ≡ 0 → Sound (laid_out t) t.found (row_at t.rows) (supports_of t)
sound_begun t l few none =
    subst (λ k. Sound (laid_out t) k (row_at t.rows) (supports_of t)) (sym none)
    (as_supports (λ i. sym (supports_before t i none)) (sound_alone (laid_out t) (row_at t.rows) (let e = laid_pipes t (omega arith) in omega arith)))

-- without pipes
pub begun : (t : Tables) → length t.ends ≡ 256 → length t.rows ≡ 256 → length t.supports ≡ 256 → t.nodes ≤ 64 → t.pipes ≡ 0 → t.found ≡ 0 → Keeps t
begun t a b c nodes pipes found = record {
  places = (a, b, c);
  few_nodes = nodes;
  few_pipes = omega arith;
  few_rings = omega arith;
  joined = λ j l. absurd (omega arith);
  sound = sound_begun t a (omega arith) found;
}

-- with another number of nodes
abbrev with_nodes : Tables → ℕ → Tables
with_nodes t nodes = record { nodes = nodes; pipes = t.pipes; found = t.found; ends = t.ends; rows = t.rows; supports = t.supports }

pub supports_remain : (t : Tables) (nodes i : ℕ) → supports_of (with_nodes t nodes) i ≡ supports_of t i
supports_remain t nodes i = ap (λ a. cond (eqb t.found 0) a (row_at t.supports i)) (alone_same (laid_out (with_nodes t nodes)) (laid_out t) refl refl refl i)

-- no fewer nodes
pub nodes_added : (t : Tables) → Keeps t → (nodes : ℕ) → t.nodes ≤ nodes → nodes ≤ 64 → Keeps (with_nodes t nodes)
nodes_added t k nodes up few = record {
  places = k.places;
  few_nodes = few;
  few_pipes = k.few_pipes;
  few_rings = k.few_rings;
  joined = λ j m. let e = k.joined j m in record {
    first_in = (e.first_in.0, (let h = e.first_in.1 in omega arith));
    second_in = (e.second_in.0, (let h = e.second_in.1 in omega arith));
    apart = e.apart;
  };
  sound = as_supports (λ i. sym (supports_remain t nodes i)) (sound_nodes nodes (laid_out t) t.found (row_at t.rows) (supports_of t) k.sound);
}

-- ends in the next place, at most one pipe more, and no rings
pub pipe_laid : (t : Tables) → Keeps t → (e : Ends) → Joins t.nodes e → (pipes found : ℕ) → pipes ≤ t.pipes + 1 → found ≡ 0 → t.pipes < 256
    → Keeps (record { nodes = t.nodes; pipes = pipes; found = found; ends = set t.ends t.pipes e; rows = t.rows; supports = t.supports })
pipe_laid t k e h pipes found up none l =
    let long : length (set t.ends t.pipes e) ≡ 256 = length-set t.ends t.pipes e ∙ k.places.0 in
    record {
      places = (long, k.places.1, k.places.2);
      few_nodes = k.few_nodes;
      few_pipes = omega arith;
      few_rings = omega arith;
      joined = λ j m. elim (ℕ_discrete j t.pipes) [
        | yes q ↦ subst (Joins t.nodes) (sym (subst (λ i. get_or (set t.ends t.pipes e) i nowhere ≡ e) (sym q) (get_or-set_same t.ends t.pipes e nowhere (let p = k.places.0 in omega arith)))) h
        | no q ↦ subst (Joins t.nodes) (sym (get_or-set_other t.ends t.pipes j e nowhere q)) (k.joined j (omega arith))
      ];
      sound = sound_begun (record { nodes = t.nodes; pipes = pipes; found = found; ends = set t.ends t.pipes e; rows = t.rows; supports = t.supports }) long (omega arith) none;
    }

-- fewer pipes, or as many, and no rings
pub no_more_pipes : (t : Tables) → Keeps t → (pipes found : ℕ) → pipes ≤ t.pipes → found ≡ 0
    → Keeps (record { nodes = t.nodes; pipes = pipes; found = found; ends = t.ends; rows = t.rows; supports = t.supports })
no_more_pipes t k pipes found l none =
    let few = k.few_pipes in
    record {
      places = k.places;
      few_nodes = k.few_nodes;
      few_pipes = omega arith;
      few_rings = omega arith;
      joined = λ j m. k.joined j (omega arith);
      sound = sound_begun (record { nodes = t.nodes; pipes = pipes; found = found; ends = t.ends; rows = t.rows; supports = t.supports }) k.places.0 (omega arith) none;
    }

-- one ring more, at the next place, and the later supports made even against it
pub ring_found : (t : Tables) → Keeps t → t.found < rank (laid_out t) → (c : Row) → Closed (laid_out t) c → odd c (supports_of t t.found) ≡ true
    → (rows supports : List StoredRow) → length rows ≡ 256 → length supports ≡ 256
    → ((i : ℕ) → i < t.found → row_at rows i ≡ row_at t.rows i) → row_at rows t.found ≡ c → Extended t.found (supports_of t) c (row_at supports)
    → Keeps (record { nodes = t.nodes; pipes = t.pipes; found = t.found + 1; ends = t.ends; rows = rows; supports = supports })
ring_found t k due c closed is_odd rows supports lr ls old new x =
    let t' : Tables = record { nodes = t.nodes; pipes = t.pipes; found = t.found + 1; ends = t.ends; rows = rows; supports = supports } in
    record {
      places = (k.places.0, lr, ls);
      few_nodes = k.few_nodes;
      few_pipes = k.few_pipes;
      few_rings = let p = k.few_pipes in let l = laid_pipes t (let q = k.places.0 in omega arith) in let r = count_le (laid_out t).pipes (closes (laid_out t)) in omega arith;
      joined = k.joined;
      sound = as_supports (λ i. sym (supports_stored t' i (λ e. omega arith)))
          (subst (λ j. Sound (laid_out t) j (row_at rows) (row_at supports)) (let q : suc t.found ≡ t.found + 1 = omega arith in q)
          (sound_next (laid_out t) t.found (row_at t.rows) (supports_of t) k.sound c closed is_odd due (row_at rows) old new (row_at supports) x));
    }
