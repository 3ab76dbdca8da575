-- How a field goes on at a connector and a token.
use Rattle.std.proofs.Common.{◌≡◌, Bool, true, false, not, cond, ◌&&◌, ◌||◌, Option, Some, None, List, [], ◌∷◌, refl, sym, ap, ◌∙◌, subst}
use Rattle.std.specs.Option.{option_map_or}
use Rattle.std.proofs.lemmas.Bool.{false≢true}
use Rattle.cron_units.specs.Units.{TimeUnit}
use Rattle.cron_text.specs.Fields.{is_connector, is_wildcard, spacing_fits}
use Rattle.cron_text.specs.Inner.FieldReading.{FieldState, joined, next_state, furthest}
use Rattle.cron_text.specs.Inner.Places.{NoConnector}
use Rattle.cron_text.specs.Inner.Views.{connector_view}
use Rattle.cron_text.specs.Tokens.{Token, Symbol, symbol_of, comma, dash, slash, after_space, after_gap}
use Rattle.cron_text.proofs.FieldStates.{grows}
use Rattle.cron_text.specs.declared.field_texts.Connector.{Connector}
use Rattle.cron_text.specs.declared.field_texts.Connector.TheVariants.{Comma, Dash, Slash}

before_by : (s w l : Bool) → (not s || not ((w && true) || (l && false))) ≡ not (w && s)
before_by true true true = refl
before_by true true false = refl
before_by true false true = refl
before_by true false false = refl
before_by false true l = refl
before_by false false l = refl

after_by : (s w : Bool) → (not s || not ((false && false) || (true && w))) ≡ not (w && s)
after_by true true = refl
after_by true false = refl
after_by false true = refl
after_by false false = refl

-- white space before a connector fits unless a wildcard is before it
fits_before : (last c : Token) (k : Connector) → connector_view k ≡ symbol_of c → spacing_fits last c ≡ not (is_wildcard (symbol_of last) && c.spaced)
fits_before last c Comma h = rw (← h) (before_by c.spaced (is_wildcard (symbol_of last)) (is_connector (symbol_of last)))
fits_before last c Dash h = rw (← h) (before_by c.spaced (is_wildcard (symbol_of last)) (is_connector (symbol_of last)))
fits_before last c Slash h = rw (← h) (before_by c.spaced (is_wildcard (symbol_of last)) (is_connector (symbol_of last)))

-- white space behind a connector fits unless a wildcard is behind it
fits_after : (c x : Token) (k : Connector) → connector_view k ≡ symbol_of c → spacing_fits c x ≡ not (is_wildcard (symbol_of x) && x.spaced)
fits_after c x Comma h = rw (← h) (after_by x.spaced (is_wildcard (symbol_of x)))
fits_after c x Dash h = rw (← h) (after_by x.spaced (is_wildcard (symbol_of x)))
fits_after c x Slash h = rw (← h) (after_by x.spaced (is_wildcard (symbol_of x)))

no_next : (u : TimeUnit) (s : FieldState) (b : Bool) (a : Symbol) (x : Token) → joined u s a x ≡ None → cond b (joined u s a x) None ≡ None
no_next u s true a x h = h
no_next u s false a x h = refl

stuck : (u : TimeUnit) (s : FieldState) (c x : Token) (ts : List Token) → next_state u s c x ≡ None → furthest u s (c ∷ x ∷ ts) ≡ (s, c ∷ x ∷ ts)
stuck u s c x ts h = ap (λ (r : Option FieldState). option_map_or (λ (t : FieldState). furthest u t ts) r (s, c ∷ x ∷ ts)) h

-- a token that the connector doesn't join
pub stuck_at_token : (u : TimeUnit) (s : FieldState) (c x : Token) (ts : List Token) (k : Connector) → connector_view k ≡ symbol_of c
    → joined u s (connector_view k) x ≡ None → furthest u s (c ∷ x ∷ ts) ≡ (s, c ∷ x ∷ ts)
stuck_at_token u s c x ts k h j =
    stuck u s c x ts (no_next u s (spacing_fits s.last c && spacing_fits c x) (symbol_of c) x (subst (λ (a : Symbol). joined u s a x ≡ None) h j))

none_second : (a b : Bool) (r : Option FieldState) → b ≡ false → cond (a && b) r None ≡ None
none_second true b r h = rw h refl
none_second false b r h = refl

-- a wildcard with white space between the connector and it
pub stuck_at_wildcard : (u : TimeUnit) (s : FieldState) (c x : Token) (ts : List Token) (k : Connector) → connector_view k ≡ symbol_of c
    → is_wildcard (symbol_of x) ≡ true → x.spaced ≡ true → furthest u s (c ∷ x ∷ ts) ≡ (s, c ∷ x ∷ ts)
stuck_at_wildcard u s c x ts k h w p =
    let apart : spacing_fits c x ≡ false = fits_after c x k h ∙ rw (w, p) refl in
    stuck u s c x ts (none_second (spacing_fits s.last c) (spacing_fits c x) (joined u s (symbol_of c) x) apart)

-- the field goes on
pub grows_on : (u : TimeUnit) (s t : FieldState) (c x : Token) (ts : List Token) (k : Connector) → connector_view k ≡ symbol_of c
    → (is_wildcard (symbol_of s.last) && c.spaced) ≡ false → (is_wildcard (symbol_of x) && x.spaced) ≡ false → joined u s (connector_view k) x ≡ Some t
    → furthest u s (c ∷ x ∷ ts) ≡ furthest u t ts
grows_on u s t c x ts k h p q j =
    let before : spacing_fits s.last c ≡ true = fits_before s.last c k h ∙ rw p refl in
    let after : spacing_fits c x ≡ true = fits_after c x k h ∙ rw q refl in
    let on : next_state u s c x ≡ Some t = grows u s c x (symbol_of c) (Some t) before after refl (subst (λ (a : Symbol). joined u s a x ≡ Some t) h j) in
    ap (λ (r : Option FieldState). option_map_or (λ (z : FieldState). furthest u z ts) r (s, c ∷ x ∷ ts)) on

-- ---- a wildcard with white space behind it

none_both : (b : Bool) (r : Option FieldState) → r ≡ None → cond b r None ≡ None
none_both true r h = h
none_both false r h = refl

-- a connector doesn't go on with a wildcard before white space
far_connector : (u : TimeUnit) (s : FieldState) (c x : Token) (k : Connector) → is_wildcard (symbol_of s.last) ≡ true → c.spaced ≡ true
    → connector_view k ≡ symbol_of c → next_state u s c x ≡ None
far_connector u s c x k w p h =
    let apart : spacing_fits s.last c ≡ false = fits_before s.last c k h ∙ rw (w, p) refl in
    ap (λ (b : Bool). cond (b && spacing_fits c x) (joined u s (symbol_of c) x) None) apart

far_symbol : (u : TimeUnit) (s : FieldState) (c x : Token) (a : Symbol) → symbol_of c ≡ a → is_wildcard (symbol_of s.last) ≡ true → c.spaced ≡ true
    → next_state u s c x ≡ None
far_symbol u s c x comma e w p = far_connector u s c x Comma w p (sym e)
far_symbol u s c x dash e w p = far_connector u s c x Dash w p (sym e)
far_symbol u s c x slash e w p = far_connector u s c x Slash w p (sym e)
far_symbol u s c x a e w p = none_both (spacing_fits s.last c && spacing_fits c x) (joined u s (symbol_of c) x) (ap (λ (b : Symbol). joined u s b x) e)

-- nothing goes on with a wildcard before white space
far : (u : TimeUnit) (s : FieldState) (ts : List Token) → is_wildcard (symbol_of s.last) ≡ true → furthest u s (after_space ts) ≡ (s, after_space ts)
far u s [] w = refl
far u s (c ∷ []) w = refl
far u s (c ∷ x ∷ ts) w = stuck u s (record c { spaced = true }) x ts
    (far_symbol u s (record c { spaced = true }) x (symbol_of (record c { spaced = true })) refl w refl)

pub far_gap : (u : TimeUnit) (s : FieldState) (b : Bool) (ts : List Token) → b ≡ true → is_wildcard (symbol_of s.last) ≡ true
    → furthest u s (after_gap b ts) ≡ (s, after_gap b ts)
far_gap u s b ts e w = rw e (far u s ts w)

pub far_end : (u : TimeUnit) (s : FieldState) (ts : List Token) → ts ≡ [] → furthest u s ts ≡ (s, ts)
far_end u s ts e = rw e refl

-- ---- no connector

not_joined : (u : TimeUnit) (s : FieldState) (a : Symbol) (x : Token) → is_connector a ≡ false → joined u s a x ≡ None
not_joined u s comma x h = absurd (false≢true (sym h))
not_joined u s dash x h = absurd (false≢true (sym h))
not_joined u s slash x h = absurd (false≢true (sym h))
not_joined u s a x h = refl

-- a field doesn't go on where no connector stands
pub stays_alone : (u : TimeUnit) (s : FieldState) (ts : List Token) → NoConnector ts → furthest u s ts ≡ (s, ts)
stays_alone u s [] h = refl
stays_alone u s (c ∷ []) h = refl
stays_alone u s (c ∷ x ∷ ts) h =
    stuck u s c x ts (none_both (spacing_fits s.last c && spacing_fits c x) (joined u s (symbol_of c) x) (not_joined u s (symbol_of c) x h))
