-- What a checked outcome that is a value says of its parts; steps through a list.
use mathlib.Core.Path.{◌≡◌, refl}
use mathlib.Core.Bool.{Bool, true, false}
use mathlib.Core.List.{List, [], ◌∷◌, ◌++◌}
use Prim.Native.Nat.{ℕ}
use native.Mathlib.Omega.{arith}
use Rattle.definition.specs.Checked.{Checked, fault, value, ◌>>=◌, refuse_if, through}

module _ {A : Type 0} where
  -- a fault is no value
  pub fault_value : {P : Type 0} (n : ℕ) (a : A) → fault n ≡ value a → P
  fault_value n a e = let k : ◌≡◌ {A = ℕ} 0 1 = cc in absurd (omega arith)

  pub value_same : (a b : A) → value a ≡ value b → a ≡ b
  value_same a b e = cc

  pub refuse_value : (t : Bool) (n : ℕ) (x : Checked A) (a : A) → refuse_if t n x ≡ value a → (t ≡ false) × (x ≡ value a)
  unfolding refuse_if
  refuse_value true n x a e = fault_value n a e
  refuse_value false n x a e = (refl, e)

pub bind_value : {A B : Type 0} (x : Checked A) (f : A → Checked B) (b : B) → (x >>= f) ≡ value b → (a : A) × (x ≡ value a) × (f a ≡ value b)
unfolding ◌>>=◌
bind_value (fault n) f b e = fault_value n b e
bind_value (value a) f b e = (a, refl, e)

module _ {S W : Type 0} (step : S → W → Checked S) where
  -- what each step keeps, all steps keep
  pub through_keeps : (P : S → Type 0) → ((s : S) (w : W) (t : S) → P s → step s w ≡ value t → P t) → (s : S) (ws : List W) (t : S) → P s → through step s ws ≡ value t → P t
  unfolding through
  through_keeps P keeps s [] t p e = rw (value_same s t e) at p
  through_keeps P keeps s (w ∷ ws) t p e =
      let r = bind_value (step s w) (λ u. through step u ws) t e in
      through_keeps P keeps r.0 ws t (keeps s w r.0 p r.1) r.2

  pub through-++ : (s : S) (ws vs : List W) (t : S) → through step s ws ≡ value t → through step s (ws ++ vs) ≡ through step t vs
  unfolding through ◌>>=◌
  through-++ s [] vs t e = rw (value_same s t e)
  through-++ s (w ∷ ws) vs t e =
      let r = bind_value (step s w) (λ u. through step u ws) t e in
      rw r.1 (through-++ r.0 ws vs t r.2)

-- steps one after another
pub bind_bind : {A B C : Type 0} (a : Checked A) (f : A → Checked B) (g : B → Checked C) → ((a >>= f) >>= g) ≡ (a >>= λ s. f s >>= g)
unfolding ◌>>=◌
bind_bind (fault n) f g = refl
bind_bind (value s) f g = refl

pub refuse_bind : {A B : Type 0} (b : Bool) (n : ℕ) (x : Checked A) (f : A → Checked B) → (refuse_if b n x >>= f) ≡ refuse_if b n (x >>= f)
unfolding ◌>>=◌ refuse_if
refuse_bind true n x f = refl
refuse_bind false n x f = refl
