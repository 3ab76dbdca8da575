-- Sets as taken places.
use Rattle.std.proofs.Common.{◌≡◌, ℕ, ◌+◌, ◌-◌, ◌≤◌, Bool, false, ◌&&◌, ◌||◌, List, [], refl, sym, ap, ◌∙◌, arith, inl, inr}
use Rattle.std.specs.Prelude.{nat_le}
use Rattle.std.proofs.lemmas.Bool.{cases_lt, le-leb, lt-leb}
use Rattle.cron_units.specs.Units.{TimeUnit, whole, contains, set_of, IsSet}
use Rattle.cron_units.specs.Places.{listed, placed, NonePast, IsLaidOut}
use Rattle.cron_units.proofs.SetLemmas.{set_same, contains_set, contains_before, contains_after, filter_none, is_set_from}

pub placed_is : (u : TimeUnit) (taken : ℕ → Bool) → placed u taken ≡ set_of u (λ x. taken (x - u.least))
unfolding listed whole
placed_is u taken = refl

pub placed_set : (u : TimeUnit) (taken : ℕ → Bool) → IsSet u (placed u taken)
placed_set u taken = is_set_from u (λ x. taken (x - u.least)) (placed u taken) (placed_is u taken)

pub placed_none : (u : TimeUnit) (taken : ℕ → Bool) → ((k : ℕ) → taken k ≡ false) → placed u taken ≡ []
placed_none u taken none = placed_is u taken ∙ filter_none (λ x. taken (x - u.least)) (whole u) (λ x. none (x - u.least))

-- An ordinal is a member where its place is taken.
pub placed_contains : (u : TimeUnit) (taken : ℕ → Bool) (x : ℕ) → u.least ≤ u.greatest → NonePast u taken
    → contains (placed u taken) x ≡ (nat_le u.least x && taken (x - u.least))
placed_contains u taken x ordered none =
    ap (λ (xs : List ℕ). contains xs x) (placed_is u taken) ∙ elim (cases_lt x u.least) [
      | inl l ↦ contains_before u (λ x. taken (x - u.least)) x l ∙ rw (lt-leb u.least x l) refl
      | inr g ↦ elim (cases_lt u.greatest x) [
        | inl l ↦ contains_after u (λ x. taken (x - u.least)) x ordered l ∙ rw (le-leb u.least x g, none (x - u.least) (omega arith)) refl
        | inr h ↦ contains_set u (λ x. taken (x - u.least)) x g h ∙ rw (le-leb u.least x g) refl
      ]
    ]

pub placed_at : (u : TimeUnit) (taken : ℕ → Bool) (k : ℕ) → u.least ≤ u.greatest → NonePast u taken → contains (placed u taken) (u.least + k) ≡ taken k
placed_at u taken k ordered none =
    let back : u.least + k - u.least ≡ k = omega arith in
    placed_contains u taken (u.least + k) ordered none ∙ rw (le-leb u.least (u.least + k) (omega arith)) (ap taken back)

-- Further places are further members.
pub placed_or : (u : TimeUnit) (taken more : ℕ → Bool) (test : ℕ → Bool)
    → ((x : ℕ) → u.least ≤ x → x ≤ u.greatest → more (x - u.least) ≡ (taken (x - u.least) || test x))
    → placed u more ≡ set_of u (λ x. contains (placed u taken) x || test x)
placed_or u taken more test same =
    placed_is u more ∙ set_same u (λ x. more (x - u.least)) (λ x. contains (placed u taken) x || test x) (λ x l g.
    same x l g ∙ ap (λ (b : Bool). b || test x) (sym (ap (λ (xs : List ℕ). contains xs x) (placed_is u taken)
    ∙ contains_set u (λ x. taken (x - u.least)) x l g)))

pub laid_out : (u : TimeUnit) {W : Type 0} (IsFit : W → Type 0) (has : W → ℕ → Bool) (made : (ℕ → Bool) → W) (words : W) → u.least ≤ u.greatest
    → ((test : ℕ → Bool) → IsFit words → ((k : ℕ) → test k ≡ has words k) → made test ≡ words) → IsFit words → NonePast u (has words)
    → IsLaidOut u IsFit has made words
laid_out u IsFit has made words ordered remade fit none = record {
  fit = fit;
  none_past = none;
  remade = remade (λ k. contains (placed u (has words)) (u.least + k)) fit (λ k. placed_at u (has words) k ordered none);
}
