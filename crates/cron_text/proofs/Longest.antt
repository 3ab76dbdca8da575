-- The field that is read from the left is the longest one.
use Rattle.std.proofs.Common.{◌≡◌, Option, Some, None, List, [], ◌∷◌, ◌++◌, refl, sym, ap, ◌∙◌, subst}
use Rattle.std.specs.Option.{option_map, option_and_then, option_map_or}
use Rattle.cron_units.specs.Units.{TimeUnit}
use Rattle.cron_text.specs.Tokens.{Token}
use Rattle.cron_text.specs.Fields.{Item, IsField}
use Rattle.cron_text.specs.Inner.FieldReading.{FieldState, next_state, state_after, first_state, field_state, state_items, furthest, field_at}
use Rattle.cron_text.specs.Fault.{IsLongestField, NoField}
use Rattle.cron_text.proofs.FieldStates.{walk_field, field_states, no_items, bound, mapped, some_same}

pub none_left : {A : Type 0} (xs ys : List A) → [] ≡ xs ++ ys → xs ≡ []
none_left [] ys h = refl
none_left (x ∷ xs) ys h = absurd (cc)

-- a walk goes on where it was
pub state_after-append : (q : TimeUnit) (s y : FieldState) (mid more : List Token) → state_after q s mid ≡ Some y
    → state_after q s (mid ++ more) ≡ state_after q y more
state_after-append q s y [] more h = ap (λ (z : FieldState). state_after q z more) (some_same s y h)
state_after-append q s y (c ∷ []) more h = absurd (cc)
state_after-append q s y (c ∷ x ∷ mid) more h =
    let b = bound (λ (z : FieldState). state_after q z mid) (next_state q s c x) y h in
    ap (option_and_then (λ (z : FieldState). state_after q z (mid ++ more))) b.1 ∙ state_after-append q b.0 y mid more b.2

furthest-append : (q : TimeUnit) (s y : FieldState) (mid rest : List Token) → state_after q s mid ≡ Some y → furthest q s (mid ++ rest) ≡ furthest q y rest
furthest-append q s y [] rest h = ap (λ (z : FieldState). furthest q z rest) (some_same s y h)
furthest-append q s y (c ∷ []) rest h = absurd (cc)
furthest-append q s y (c ∷ x ∷ mid) rest h =
    let b = bound (λ (z : FieldState). state_after q z mid) (next_state q s c x) y h in
    ap (λ (r : Option FieldState). option_map_or (λ (z : FieldState). furthest q z (mid ++ rest)) r (s, c ∷ x ∷ (mid ++ rest))) b.1
    ∙ furthest-append q b.0 y mid rest b.2

-- what was read is a walk over a front, and none goes on with the rest
record Stops (q : TimeUnit) (s : FieldState) (ts : List Token) (z : FieldState) (rest : List Token) : Type 0 where
  mid : List Token
  cut : ts ≡ mid ++ rest
  walks : state_after q s mid ≡ Some z
  stuck : (more after : List Token) (u : FieldState) → rest ≡ more ++ after → state_after q z more ≡ Some u → more ≡ []

none_some : {A : Type 0} {P : A → Type 0} {r : Option A} → ((y : A) × (r ≡ Some y) × P y) → r ≡ None → ⊥
none_some h n = let e = h.1 in cc

pub nothing : (q : TimeUnit) (items : List Item) → IsField q [] items → ⊥
nothing q [] f = f.nonempty refl
nothing q (i ∷ is) f = no_items i is f.written

stuck_at : (q : TimeUnit) (s : FieldState) (c x : Token) (ts : List Token) → next_state q s c x ≡ None → (more after : List Token) (u : FieldState)
    → c ∷ x ∷ ts ≡ more ++ after → state_after q s more ≡ Some u → more ≡ []
stuck_at q s c x ts n [] after u e w = refl
stuck_at q s c x ts n (a ∷ []) after u e w = absurd (cc)
stuck_at q s c x ts n (a ∷ b ∷ more) after u e w =
    let p : c ≡ a = cc in
    let r : x ≡ b = cc in
    let m : next_state q s a b ≡ None = subst (λ (y : Token). next_state q s y b ≡ None) p (subst (λ (y : Token). next_state q s c y ≡ None) r n) in
    absurd (none_some (bound (λ (z : FieldState). state_after q z more) (next_state q s a b) u w) m)

one_stuck : (q : TimeUnit) (s : FieldState) (c : Token) (more after : List Token) (u : FieldState) → c ∷ [] ≡ more ++ after
    → state_after q s more ≡ Some u → more ≡ []
one_stuck q s c [] after u e w = refl
one_stuck q s c (a ∷ []) after u e w = absurd (cc)
one_stuck q s c (a ∷ b ∷ more) after u e w = absurd (cc)

stops_from : (q : TimeUnit) (s : FieldState) (c x : Token) (ts : List Token) (r : Option FieldState) → next_state q s c x ≡ r
    → ((t : FieldState) → Stops q t ts (furthest q t ts).0 (furthest q t ts).1)
    → let f = option_map_or (λ (t : FieldState). furthest q t ts) r (s, c ∷ x ∷ ts) in Stops q s (c ∷ x ∷ ts) f.0 f.1
stops_from q s c x ts None n again = record { mid = []; cut = refl; walks = refl; stuck = stuck_at q s c x ts n }
stops_from q s c x ts (Some t) n again =
    let f = again t in
    record {
      mid = c ∷ x ∷ f.mid;
      cut = ap (λ (ys : List Token). c ∷ x ∷ ys) f.cut;
      walks = ap (option_and_then (λ (z : FieldState). state_after q z f.mid)) n ∙ f.walks;
      stuck = f.stuck;
    }

stops : (q : TimeUnit) (s : FieldState) (ts : List Token) → Stops q s ts (furthest q s ts).0 (furthest q s ts).1
stops q s [] = record { mid = []; cut = refl; walks = refl; stuck = λ more after u e w. none_left more after e }
stops q s (c ∷ []) = record { mid = []; cut = refl; walks = refl; stuck = one_stuck q s c }
stops q s (c ∷ x ∷ ts) = stops_from q s c x ts (next_state q s c x) refl (λ t. stops q t ts)

-- What is read at the front is the longest field there.
pub read_longest : (q : TimeUnit) (ts : List Token) (s : FieldState) (rest : List Token) → field_at q ts ≡ Some (s, rest)
    → (front : List Token) × IsLongestField q ts front rest (state_items s)
read_longest q [] s rest h = absurd (cc)
read_longest q (t ∷ ts) s rest h =
    let m = mapped (λ (z : FieldState). furthest q z ts) (first_state q t) (s, rest) h in
    let f = subst (λ (p : FieldState × List Token). Stops q m.0 ts p.0 p.1) m.2 (stops q m.0 ts) in
    let whole : field_state q (t ∷ f.mid) ≡ Some s = ap (option_and_then (λ (z : FieldState). state_after q z f.mid)) m.1 ∙ f.walks in (
      t ∷ f.mid,
      record {
        cut = ap (λ (ys : List Token). t ∷ ys) f.cut;
        field = walk_field q (t ∷ f.mid) s whole;
        longest = λ more after js e g.
            let w = field_states q (t ∷ (f.mid ++ more)) js g in
            let b = bound (λ (z : FieldState). state_after q z (f.mid ++ more)) (first_state q t) w.0 w.1 in
            let same : m.0 ≡ b.0 = some_same m.0 b.0 (sym m.1 ∙ b.1) in
            let on : state_after q s more ≡ Some w.0 = sym (state_after-append q m.0 s f.mid more f.walks)
            ∙ (ap (λ (z : FieldState). state_after q z (f.mid ++ more)) same ∙ b.2) in
            f.stuck more after w.0 e on;
      },
    )

-- Where nothing is read, no front is a field.
pub read_none : (q : TimeUnit) (ts : List Token) → field_at q ts ≡ None → NoField q ts
read_none q ts h [] rest [] e f = f.nonempty refl
read_none q ts h [] rest (i ∷ is) e f = no_items i is f.written
read_none q [] h (t ∷ front) rest items e f = cc
read_none q (a ∷ ts) h (t ∷ front) rest items e f =
    let w = field_states q (t ∷ front) items f in
    let b = bound (λ (z : FieldState). state_after q z front) (first_state q t) w.0 w.1 in
    let same : a ≡ t = cc in
    let r : first_state q a ≡ Some b.0 = ap (first_state q) same ∙ b.1 in
    let n : Some (furthest q b.0 ts) ≡ None = sym (ap (option_map (λ (z : FieldState). furthest q z ts)) r) ∙ h in
    cc

pair_is : {A B : Type 0} (u : A × B) (a : A) (b : B) → a ≡ u.0 → b ≡ u.1 → u ≡ (a, b)
pair_is u a b p q = rw (p, q) refl

-- The longest field is what is read.
pub longest_read : (q : TimeUnit) (ts front rest : List Token) (items : List Item) → IsLongestField q ts front rest items
    → (s : FieldState) × (field_at q ts ≡ Some (s, rest)) × (state_items s ≡ items)
longest_read q ts [] rest items f = absurd (nothing q items f.field)
longest_read q ts (t ∷ front) rest items f =
    let w = field_states q (t ∷ front) items f.field in
    let b = bound (λ (z : FieldState). state_after q z front) (first_state q t) w.0 w.1 in
    let r = stops q w.0 rest in
    let u : FieldState × List Token = furthest q w.0 rest in
    let longer : field_state q (t ∷ (front ++ r.mid)) ≡ Some u.0 =
    ap (option_and_then (λ (z : FieldState). state_after q z (front ++ r.mid))) b.1 ∙ (state_after-append q b.0 w.0 front r.mid b.2 ∙ r.walks) in
    let end : r.mid ≡ [] = f.longest r.mid u.1 (state_items u.0) r.cut (walk_field q (t ∷ (front ++ r.mid)) u.0 longer) in
    let still : w.0 ≡ u.0 = some_same w.0 u.0 (sym (ap (state_after q w.0) end) ∙ r.walks) in
    let all : rest ≡ u.1 = r.cut ∙ ap (λ (ys : List Token). ys ++ u.1) end in
    let here : u ≡ (w.0, rest) = pair_is u w.0 rest still all in (
      w.0,
      ap (field_at q) f.cut ∙ (ap (option_map (λ (z : FieldState). furthest q z (front ++ rest))) b.1
          ∙ ap Some (furthest-append q b.0 w.0 front rest b.2 ∙ here)),
      w.2,
    )
