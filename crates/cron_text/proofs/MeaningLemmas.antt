-- A text means one thing, and has one fault.
use Rattle.std.proofs.Common.{◌≡◌, ℕ, Bool, true, false, cond, ◌⊎◌, inl, inr, not, ◌&&◌, if◌then◌else◌, Option, Some, None, List, [], ◌∷◌, ◌++◌, codes, refl, sym, ap, ◌∙◌, subst}
use Rattle.std.specs.Prelude.{slice_index}
use Rattle.std.specs.Str.{bytes_eq}
use Rattle.std.specs.List.{AllByRecursion}
use Rattle.cron_units.specs.Units.{TimeUnit, FieldSet, IsUnit, unmarked}
use Rattle.cron_units.specs.Refusals.{Refusal, IsFirstRefusal, message}
use Rattle.cron_units.proofs.DenotedSets.{first_once}
use Rattle.cron_text.specs.Fault.{IsRefused, IsFaultOf, TakeSets}
use Rattle.cron_text.specs.Fields.{Item, IsField}
use Rattle.cron_text.specs.Inner.FieldReading.{FieldState, first_state, lone_item, state_after}
use Rattle.cron_text.specs.Meaning.{six_units, field_sets, shorthand_of, trimmed_front, trimmed_end, before_rest, IsLonghand, IsShorthand, Means, yearly, monthly, weekly, daily, hourly}
use Rattle.cron_units.specs.Sets.{Sets}
use Rattle.cron_text.specs.TextLaws.{MeansOnce, LongestFrontsAgree, HasOneFault}
use Rattle.cron_text.specs.Tokens.{Token, Symbol, tokens, is_space, in_one_run, after_space, after_byte, after_gap, symbol_of, foreign}
use Rattle.cron_text.proofs.Longest.{nothing}
use Rattle.cron_text.proofs.TextLemmas.{sets_once, sets_taken, taken_sets, same_longest, takes_once, not_both, are_units}
use Rattle.cron_text.proofs.TokenRuns.{tokens-cons, skip_more}
use Rattle.cron_text.proofs.FieldStates.{field_states, bound, mapped, some_same}
use Rattle.std.proofs.lemmas.Slice.Eq.{bytes_eq-Decides}

same_list : (xs ys : List ℕ) → unmarked xs ≡ unmarked ys → xs ≡ ys
same_list xs ys h = ap (λ (s : FieldSet). s.ordinals) h

same_sets : (a b : Sets) → field_sets a ≡ field_sets b → a ≡ b
same_sets a b h =
    let e : (a.seconds ≡ b.seconds) × (a.minutes ≡ b.minutes) × (a.hours ≡ b.hours) × (a.days_of_month ≡ b.days_of_month) × (a.months ≡ b.months)
    × (a.days_of_week ≡ b.days_of_week) × (a.years ≡ b.years) = (
      same_list a.seconds b.seconds (cc),
      same_list a.minutes b.minutes (cc),
      same_list a.hours b.hours (cc),
      cc,
      same_list a.months b.months (cc),
      same_list a.days_of_week b.days_of_week (cc),
      same_list a.years b.years (cc),
    ) in
    rw (e.0, e.1, e.2, e.3, e.4, e.5, e.6) refl

-- ---- a shorthand begins with `@`

one_test : (b : Bool) (s t : Sets) (r : Option Sets) → cond b (Some t) r ≡ Some s → (b ≡ true) ⊎ (r ≡ Some s)
one_test true s t r h = inl refl
one_test false s t r h = inr h

tested : (w c : List ℕ) → bytes_eq w c ≡ true → w ≡ c
tested w c h = (bytes_eq-Decides w c).0 h

begins_at : (w : List ℕ) (s : Sets) → shorthand_of w ≡ Some s → (cs : List ℕ) × (w ≡ 64 ∷ cs)
begins_at w s h =
    elim (one_test (bytes_eq w (codes "@yearly")) s yearly _ h) [
      | inl e ↦ (codes "yearly", tested w (codes "@yearly") e)
      | inr h ↦ elim (one_test (bytes_eq w (codes "@monthly")) s monthly _ h) [
        | inl e ↦ (codes "monthly", tested w (codes "@monthly") e)
        | inr h ↦ elim (one_test (bytes_eq w (codes "@weekly")) s weekly _ h) [
          | inl e ↦ (codes "weekly", tested w (codes "@weekly") e)
          | inr h ↦ elim (one_test (bytes_eq w (codes "@daily")) s daily _ h) [
            | inl e ↦ (codes "daily", tested w (codes "@daily") e)
            | inr h ↦ elim (one_test (bytes_eq w (codes "@hourly")) s hourly _ h) [
              | inl e ↦ (codes "hourly", tested w (codes "@hourly") e)
              | inr h ↦ elim (one_test (bytes_eq w (codes "@annually")) s yearly _ h) [
                | inl e ↦ (codes "annually", tested w (codes "@annually") e)
                | inr h ↦ elim (one_test (bytes_eq w (codes "@midnight")) s daily _ h) [
                  | inl e ↦ (codes "midnight", tested w (codes "@midnight") e)
                  | inr h ↦ absurd (cc)
                ]
              ]
            ]
          ]
        ]
      ]
    ]

before_first : (c d : ℕ) (cs ds : List ℕ) → before_rest c cs ≡ d ∷ ds → c ≡ d
before_first c d [] ds h = before_none (is_space c) h where
  before_none : (b : Bool) → cond b [] (c ∷ []) ≡ d ∷ ds → c ≡ d
  before_none true k = absurd (cc)
  before_none false k = cc
before_first c d (x ∷ cs) ds h = cc

-- what is left of a text without the white space at its end begins as the text does
end_first : (text : List ℕ) (d : ℕ) (ds : List ℕ) → trimmed_end text ≡ d ∷ ds → (cs : List ℕ) × (text ≡ d ∷ cs)
unfolding trimmed_end
end_first [] d ds h = absurd (cc)
end_first (c ∷ cs) d ds h = (cs, ap (λ (x : ℕ). x ∷ cs) (before_first c d (trimmed_end cs) ds h))

none_from : (o : Option Sets) → ((s : Sets) → o ≡ Some s → ⊥) → o ≡ None
none_from None f = refl
none_from (Some s) f = absurd (f s refl)

-- a text that doesn't begin with `@`
pub no_shorthand : (text : List ℕ) → ((cs : List ℕ) → text ≡ 64 ∷ cs → ⊥) → shorthand_of (trimmed_end text) ≡ None
no_shorthand text f =
    none_from (shorthand_of (trimmed_end text)) (λ s h.
    let w = begins_at (trimmed_end text) s h in
    let t = end_first text 64 w.0 w.1 in
    f t.0 t.1)

after_space_gap : (b : Bool) (ts : List Token) → after_space (after_gap b ts) ≡ after_space ts
after_space_gap false ts = refl
after_space_gap true [] = refl
after_space_gap true (t ∷ ts) = refl

-- white space at the front changes no token but the first one's spacing
front_tokens : (text : List ℕ) → (b : Bool) × (tokens text ≡ after_gap b (tokens (trimmed_front text)))
unfolding trimmed_front
front_tokens [] = (false, refl)
front_tokens (c ∷ cs) = by_space (is_space c) refl (front_tokens cs) where
  by_space : (b : Bool) → is_space c ≡ b → ((x : Bool) × (tokens cs ≡ after_gap x (tokens (trimmed_front cs))))
      → (x : Bool) × (tokens (c ∷ cs) ≡ after_gap x (tokens (cond b (trimmed_front cs) (c ∷ cs))))
  by_space true e more =
      (true, skip_more false (c ∷ cs) (c ∷ cs) cs c refl refl e ∙ (ap after_space more.1 ∙ after_space_gap more.0 (tokens (trimmed_front cs))))
  by_space false e more = (false, refl)

-- `@` is a token of its own
at_sign : (ts : List Token) → after_byte 64 ts ≡ record { spaced = false; text = 64 ∷ [] } ∷ ts
at_sign [] = refl
at_sign (t ∷ ts) = by_spacing t.spaced where
  by_spacing : (b : Bool) → (if not b && in_one_run 64 (slice_index t.text 0) then record {
    spaced = false;
    text = 64 ∷ t.text;
  } ∷ ts else record { spaced = false; text = 64 ∷ [] } ∷ t ∷ ts) ≡ record { spaced = false; text = 64 ∷ [] } ∷ t ∷ ts
  by_spacing true = refl
  by_spacing false = refl

spaced_at : (b : Bool) (ts : List Token) → after_gap b (record { spaced = false; text = 64 ∷ [] } ∷ ts) ≡ record { spaced = b; text = 64 ∷ [] } ∷ ts
spaced_at true ts = refl
spaced_at false ts = refl

-- the first token of a shorthand stands in no field
record BeginsForeign (text : List ℕ) : Type 0 where
  first : Token
  more : List Token
  is : tokens text ≡ first ∷ more
  foreign_first : symbol_of first ≡ foreign

foreign_at : (b : Bool) → symbol_of (record { spaced = b; text = 64 ∷ [] }) ≡ foreign
unfolding symbol_of
foreign_at b = refl

shorthand_foreign : (text : List ℕ) (s : Sets) → IsShorthand text s → BeginsForeign text
shorthand_foreign text s h =
    let w = begins_at (trimmed_end (trimmed_front text)) s h in
    let front = end_first (trimmed_front text) 64 w.0 w.1 in
    let t = front_tokens text in
    record {
      first = record { spaced = t.0; text = 64 ∷ [] };
      more = tokens front.0;
      is = t.1 ∙ (ap (λ (cs : List ℕ). after_gap t.0 (tokens cs)) front.1
          ∙ (ap (after_gap t.0) (tokens-cons 64 front.0 ∙ at_sign (tokens front.0)) ∙ spaced_at t.0 (tokens front.0)));
      foreign_first = foreign_at t.0;
    }

no_lone : (u : TimeUnit) (a : Symbol) (i : Item) → a ≡ foreign → lone_item u a ≡ Some i → ⊥
no_lone u a i e h = let k : lone_item u foreign ≡ Some i = subst (λ (b : Symbol). lone_item u b ≡ Some i) e h in cc

no_foreign : (u : TimeUnit) (ts front rest : List Token) (items : List Item) (t : Token) (more : List Token) → ts ≡ t ∷ more → symbol_of t ≡ foreign
    → ts ≡ front ++ rest → IsField u front items → ⊥
no_foreign u ts [] rest items t more is f e h = nothing u items h
no_foreign u ts (x ∷ front) rest items t more is f e h =
    let w = field_states u (x ∷ front) items h in
    let b = bound (λ (y : FieldState). state_after u y front) (first_state u x) w.0 w.1 in
    let m = mapped (λ (i : Item). record { done = []; item = i; last = x }) (lone_item u (symbol_of x)) b.0 b.1 in
    let same : t ≡ x = cc in
    no_lone u (symbol_of x) m.0 (ap symbol_of (sym same) ∙ f) m.1

not_both_ways : (text : List ℕ) (a b : Sets) → IsLonghand text a → IsShorthand text b → ⊥
not_both_ways text a b h k =
    let f = shorthand_foreign text b k in
    no_foreign _ (tokens text) h.0 h.1 h.2 f.first f.more f.is f.foreign_first h.3 h.4

pub means_once : MeansOnce
means_once text a b (inl h) (inl k) = same_sets a b (sets_once six_units (tokens text) (field_sets a) (field_sets b) h k)
means_once text a b (inl h) (inr k) = absurd (not_both_ways text a b h k)
means_once text a b (inr h) (inl k) = absurd (not_both_ways text b a k h)
means_once text a b (inr h) (inr k) = some_same a b (sym h ∙ k)

pub fronts_agree : LongestFrontsAgree
fronts_agree text none = (λ m. taken m.0 m.1, λ t. (t.0, inl (taken_sets six_units (tokens text) (field_sets t.0) t.1))) where
  taken : (s : Sets) → Means text s → (s : Sets) × TakeSets six_units (tokens text) (field_sets s)
  taken s (inl h) = (s, sets_taken six_units (tokens text) (field_sets s) h)
  taken s (inr h) = absurd (none s h)

-- ---- one fault

same_message : (u : TimeUnit) (is : List Item) (q r : Refusal) (a b : List ℕ) → IsUnit u → IsFirstRefusal u is q → IsFirstRefusal u is r
    → a ≡ message u q → b ≡ message u r → a ≡ b
same_message u is q r a b h f g d e = d ∙ (ap (message u) (first_once u is q r h f g) ∙ sym e)

refused_once : (us : List TimeUnit) (ts : List Token) (a b : List ℕ) → AllByRecursion IsUnit us → IsRefused us ts a → IsRefused us ts b → a ≡ b
refused_once [] ts a b v h k = absurd h
refused_once (u ∷ us) ts a b v (inl h) (inl k) =
    let s = same_longest u ts h.front h.rest k.front k.rest h.items k.items h.longest k.longest in
    same_message u k.items h.refusal k.refusal a b v.0 (subst (λ (is : List Item). IsFirstRefusal u is h.refusal) s.1 h.first) k.first h.told k.told
refused_once (u ∷ us) ts a b v (inl h) (inr k) = absurd (not_both u ts k.0 k.1 a h k.2)
refused_once (u ∷ us) ts a b v (inr h) (inl k) = absurd (not_both u ts h.0 h.1 b k h.2)
refused_once (u ∷ us) ts a b v (inr h) (inr k) =
    refused_once us k.1 a b v.1 (subst (λ (z : List Token). IsRefused us z a) (takes_once u ts h.0 k.0 h.1 k.1 h.2 k.2).0 h.3) k.3

fault_once : (us : List TimeUnit) (ts : List Token) (a b : List ℕ) → AllByRecursion IsUnit us → IsFaultOf us ts a → IsFaultOf us ts b → a ≡ b
fault_once us ts a b v (inl h) (inl k) = refused_once us ts a b v h k
fault_once us ts a b v (inl h) (inr k) = absurd (k.0 a h)
fault_once us ts a b v (inr h) (inl k) = absurd (h.0 b k)
fault_once us ts a b v (inr h) (inr k) = h.1 ∙ sym k.1

pub one_fault : HasOneFault
one_fault text a b h k = fault_once six_units (tokens text) a b are_units h k
