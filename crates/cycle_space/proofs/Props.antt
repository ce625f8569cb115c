-- What is kept of rings and supports holds of any rings and supports that are equal. Assumes nothing.
use Rattle.std.proofs.Common.{◌≡◌, ℕ, ◌<◌, sym, ap, ◌∙◌, subst}
use mathlib.Core.Path.{fun_ext}
use Rattle.cycle_space.specs.Rows.{Row, odd}
use Rattle.cycle_space.specs.Shapes.{Shape}
use Rattle.cycle_space.specs.Bases.{Closed}
use Rattle.cycle_space.specs.Supports.{Sound}

pub as_rings : {N : Shape} {k : ℕ} {ring ring' support : ℕ → Row} → ((i : ℕ) → i < k → ring i ≡ ring' i) → Sound N k ring support → Sound N k ring' support
as_rings {N} {k} {ring} {ring'} {support} e s = record {
  few_pipes = s.few_pipes;
  not_over = s.not_over;
  of_pipes = s.of_pipes;
  own = s.own;
  lower = s.lower;
  closed = λ i l. subst (Closed N) (e i l) (s.closed i l);
  own_odd = λ i l. ap (λ r. odd r (support i)) (sym (e i l)) ∙ s.own_odd i l;
  later_even = λ i j l ij jr. ap (λ r. odd r (support j)) (sym (e i l)) ∙ s.later_even i j l ij jr;
}

pub as_supports : {N : Shape} {k : ℕ} {ring support support' : ℕ → Row} → ((i : ℕ) → support i ≡ support' i) → Sound N k ring support → Sound N k ring support'
as_supports {N} {k} {ring} e s = subst (Sound N k ring) (fun_ext e) s
