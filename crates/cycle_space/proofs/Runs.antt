-- Runs of pipes: to be joined by one is an equivalence. Assumes nothing.
use Rattle.std.proofs.Common.{ℕ, ◌≤◌, sym, refl, subst, arith}
use Rattle.cycle_space.specs.Shapes.{Shape, Run, stay, cross, PartLaws}

module _ (N : Shape) (k : ℕ) where
  pub run_then : (s u t : ℕ) → Run N k s u → Run N k u t → Run N k s t
  run_then s u t (stay e) q = subst (λ v. Run N k v t) (sym e) q
  run_then s u t (cross j v l c r) q = cross j v l c (run_then v u t r q)

  pub run_back : (s t : ℕ) → Run N k s t → Run N k t s
  run_back s t (stay e) = stay (sym e)
  run_back s t (cross j u l c r) = run_then t u s (run_back u t r) (cross j s l (grind arith) (stay refl))

-- with more pipes to cross
pub run_up : (N : Shape) (k m : ℕ) → k ≤ m → (s t : ℕ) → Run N k s t → Run N m s t
run_up N k m h s t (stay e) = stay e
run_up N k m h s t (cross j u l c r) = cross j u (omega arith) c (run_up N k m h u t r)

pub part_laws : PartLaws
part_laws = record {
  itself = λ N v. stay refl;
  back = λ N s t. run_back N N.pipes s t;
  through = λ N s u t. run_then N N.pipes s u t;
}
