-- What a number of a file that is not declined is, and what is made of it. Assumes nothing.
use Rattle.std.proofs.Common.{◌≡◌, ℕ, ◌≤◌, Bool, true, false, cond, Ok, Err, Result, ap, nat_le, refl}
use Rattle.std.proofs.lemmas.Bool.{leb-true}
use Rattle.measures.specs.Numbers.{Read}
use Rattle.measures.specs.declared.refusal.Refusal.{Refusal}
use Rattle.measures.specs.declared.refusal.Refusal.TheVariants.{FileNumberTooGreat}

-- the number is read as the value
abbrev pub Taken : ℕ → ℕ → ℕ → Type 0
Taken greatest number value = ◌≡◌ {A = Result ℕ Refusal} (Ok value) (Read (λ n. n) greatest number)

-- it is at most the greatest
pub small : (greatest number value : ℕ) → Taken greatest number value → value ≤ greatest
small greatest number value read = go (nat_le number greatest) refl read where
  go : (b : Bool) → nat_le number greatest ≡ b → ◌≡◌ {A = Result ℕ Refusal} (Ok value) (cond b (Ok number) (Err FileNumberTooGreat)) → value ≤ greatest
  go true e h = let same : value ≡ number = cc in rw same (leb-true number greatest e)
  go false e h = cc

-- and it stands for the value that is made of it
pub made : {M : Type 0} (standing : ℕ → M) (greatest number value : ℕ) {v : M} → Taken greatest number value → v ≡ standing value → Ok v ≡ Read standing greatest number
made {M} standing greatest number value {v} read same = go (nat_le number greatest) read where
  go : (b : Bool) → ◌≡◌ {A = Result ℕ Refusal} (Ok value) (cond b (Ok number) (Err FileNumberTooGreat)) → ◌≡◌ {A = Result M Refusal} (Ok v) (cond b (Ok (standing number)) (Err FileNumberTooGreat))
  go true h = let e : value ≡ number = cc in ap Ok (rw e at same)
  go false h = cc
