-- Rows as sets of pipes: one pipe turned, the parity of a row of pipes, and weights. Assumes nothing.
use Rattle.std.proofs.Common.{◌≡◌, ℕ, zero, suc, ◌+◌, ◌-◌, ◌<◌, ◌≤◌, Bool, true, false, cond, ◌&&◌, eqb, length, get_or, sym, refl, ap, ◌∙◌, subst, arith, ne_eqb}
use Rattle.cycle_space.specs.Sums.{fold}
use Rattle.cycle_space.specs.Rows.{Row, bit, holds, FourWords, row_of, add2, odd}
use Rattle.cycle_space.specs.Shapes.{Shape}
use Rattle.cycle_space.specs.Bases.{OfPipes}
use Rattle.cycle_space.proofs.Booleans.{by_eqb, eqb_same, add2_same, add2_false, add2_assoc, and_comm}
use Rattle.cycle_space.proofs.Folds.{bits, fold_same, fold_none, fold_add, fold_out}
use Rattle.cycle_space.proofs.Counting.{flip}
use Rattle.cycle_space.proofs.Bits.{row_of_words, sum_bit, sum_row}
use Rattle.cycle_space.proofs.Singles.{single_bit}
use Rattle.cycle_space.proofs.Parities.{odd_fold}
use Rattle.cycle_space.proofs.Trails.{odd_in}
use Rattle.cycle_space.proofs.Weights.{heft, weight_from_fold}
use Rattle.search.specs.Tasks.{Task, weight, row_weight}
use Rattle.search.specs.Steps.{turn}
use Rattle.search.proofs.Measuring.{Lawful, monoid, grows}

-- One pipe turned

module _ (x : Row) (j : ℕ) (four : length x ≡ 4) (small : j < 256) where
  pub turn_bit : (k : ℕ) → bit (turn x j) k ≡ flip (bit x) j k
  turn_bit k =
      sum_bit x (row_of f) (four ∙ sym (row_of_words f).four) k
      ∙ ap (add2 (bit x k)) (ap (λ m. bit (row_of (λ i. eqb (suc i) m)) k) (let q : j + 1 ≡ suc j = omega arith in q) ∙ single_bit j k small)
    where
      f : ℕ → Bool
      f i = eqb (suc i) (j + 1)

  pub turn_row : FourWords x → FourWords (turn x j)
  turn_row w = sum_row x (row_of (λ i. eqb (suc i) (j + 1))) w (row_of_words (λ i. eqb (suc i) (j + 1)))

pub turn_of_pipes : (m : ℕ) (x : Row) (j : ℕ) → m ≤ 256 → j < m → OfPipes m x → OfPipes m (turn x j)
turn_of_pipes m x j few here o = record { words = turn_row x j o.words.four (omega arith) o.words; others = others }
  where
    others : (k : ℕ) → m < k → holds (turn x j) k ≡ false
    others zero h = refl
    others (suc k) h =
        turn_bit x j o.words.four (omega arith) k
        ∙ ap (λ b. add2 b (eqb k j)) (o.others (suc k) h) ∙ ne_eqb k j (λ q. omega arith)

-- The parity of a set of the net's pipes

pub odd_pipes : (N : Shape) (x s : Row) → N.pipes ≤ 256 → OfPipes N.pipes x → odd x s ≡ odd_in N (bit s) (bit x)
odd_pipes N x s few o =
    let u : ℕ → Bool = λ j. bit x j && bit s j in
    let m : ℕ = N.pipes in
    let rest : ℕ = 256 - m in
    let all : 256 ≡ m + rest = omega arith in
    odd_fold x s
    ∙ ap (λ n. fold false add2 n u) all
    ∙ fold_add bits m rest u
    ∙ ap (λ b. add2 b (fold false add2 m u))
    (fold_none bits rest (λ j. u (m + j)) (λ j _. ap (λ b. b && bit s (m + j)) (o.others (suc (m + j)) (omega arith))))
    ∙ fold_same bits m u (λ j. bit s j && bit x j) (λ j _. and_comm (bit x j) (bit s j))

-- Weights

flip_twice : (x : ℕ → Bool) (j i : ℕ) → flip (flip x j) j i ≡ x i
flip_twice x j i = add2_assoc (x i) (eqb i j) (eqb i j) ∙ ap (add2 (x i)) (add2_same (eqb i j)) ∙ add2_false (x i)

module _ {M : Type 0} {t : Task M} (laws : Lawful t) where
  -- the weight of a set of places
  abbrev pub heft_of : (ℕ → Bool) → M
  heft_of x = heft t.none t.join t.weights x

  pub heft_same : (x y : ℕ → Bool) → ((i : ℕ) → x i ≡ y i) → heft_of x ≡ heft_of y
  heft_same x y h =
      fold_same (monoid laws) (length t.weights) (λ i. cond (x i) (get_or t.weights i t.none) t.none) (λ i. cond (y i) (get_or t.weights i t.none) t.none)
      (λ i _. ap (λ b. cond b (get_or t.weights i t.none) t.none) (h i))

  pub row_heft : (x : Row) → row_weight t x ≡ heft_of (bit x)
  row_heft x = weight_from_fold (monoid laws) x 0 t.weights ∙ heft_same (λ j. bit x (0 + j)) (bit x) (λ j. ap (bit x) (omega arith))

  -- a pipe of the set taken out
  pub heft_out : (x : ℕ → Bool) (j : ℕ) → j < length t.weights → x j ≡ true → heft_of x ≡ t.join (weight t j) (heft_of (flip x j))
  heft_out x j h e =
      let w : ℕ → M = λ i. get_or t.weights i t.none in
      let z : M = t.none in
      let n : ℕ = length t.weights in
      fold_out (monoid laws) n j (λ i. cond (x i) (w i) z) h
      ∙ ap (λ b. t.join (cond b (w j) z) (fold z t.join n (λ i. cond (eqb i j) z (cond (x i) (w i) z)))) e
      ∙ ap (t.join (w j))
      (fold_same (monoid laws) n (λ i. cond (eqb i j) z (cond (x i) (w i) z)) (λ i. cond (flip x j i) (w i) z)
      (λ i _. by_eqb (λ b. cond b z (cond (x i) (w i) z) ≡ cond (add2 (x i) b) (w i) z) i j
      (λ q. sym (ap (λ b. cond (add2 b true) (w i) z) (ap x q ∙ e)))
      (λ _. ap (λ b. cond b (w i) z) (sym (add2_false (x i))))))

  -- a pipe turned adds no more than its weight
  pub heft_flip : (x : ℕ → Bool) (j : ℕ) (d : M) → j < length t.weights → t.within (heft_of x) d ≡ true → t.within (heft_of (flip x j)) (t.join d (weight t j)) ≡ true
  heft_flip x j d h le = go (x j) refl
    where
      go : (b : Bool) → x j ≡ b → t.within (heft_of (flip x j)) (t.join d (weight t j)) ≡ true
      go true e =
          laws.base.trans _ _ _ (grows laws (heft_of (flip x j)) (weight t j))
          (laws.base.trans _ _ _
          (subst (λ y. t.within y d ≡ true) (heft_out x j h e ∙ laws.base.comm (weight t j) (heft_of (flip x j))) le)
          (grows laws d (weight t j)))
      go false e =
          let in-now : flip x j j ≡ true = ap (λ b. add2 b (eqb j j)) e ∙ eqb_same j in
          let is : heft_of (flip x j) ≡ t.join (heft_of x) (weight t j) =
          heft_out (flip x j) j h in-now ∙ ap (t.join (weight t j)) (heft_same (flip (flip x j) j) x (flip_twice x j)) ∙ laws.base.comm (weight t j) (heft_of x) in
          subst (λ y. t.within y (t.join d (weight t j)) ≡ true) (sym is) (laws.order (heft_of x) d (weight t j) le)
