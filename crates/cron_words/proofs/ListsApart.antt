-- Lists are told apart, with what stands behind them.
use Rattle.std.proofs.Common.{◌≡◌, ◌==◌, ◌<◌, ◌^◌, ℕ, Bool, true, false, ◌&&◌, ◌||◌, not, List, [], ◌∷◌, ◌++◌, codes, get_or, refl, sym, ap, ◌∙◌, append_assoc}
use Rattle.std.proofs.lemmas.Bool.{eq-eqb, eqb-true, false≢true}
use Rattle.std.proofs.lemmas.List.{append_cancel_left}
use Rattle.std.specs.Fmt.{decimal}
use Rattle.std.specs.List.{AllByRecursion}
use Rattle.cron_text.specs.Tokens.{is_digit}
use Rattle.cron_words.specs.Lists.{item_text, list_text, more_text, name_text}
use Rattle.cron_words.specs.declared.items.Item.{Item}
use Rattle.cron_words.specs.declared.items.Item.TheVariants.{One, Range, Steps}
use Rattle.cron_words.specs.declared.progressions.Progression.{Progression}
use Rattle.cron_words.specs.declared.lists.Naming.TheVariants.{Numbers}
use Rattle.cron_words.specs.declared.lists.Naming.{Naming}
use Rattle.cron_words.proofs.DigitLemmas.{cut, heads, is_word}
use Rattle.cron_words.proofs.NameLemmas.{Fits, begins, name_is, name_same}

-- a text that goes on with no list: nothing, or what begins with a semicolon, a comma, ` of`, ` from` or ` and`, before no name
unfoldable pub stops : Naming → List ℕ → Bool
stops w [] = true
stops w (b ∷ t) =
    b == 59 || ((b == 44 && not (begins w (get_or t 1 0))) || (b == 32 && (get_or t 0 0 == 111 || (get_or t 0 0 == 102 || (get_or t 0 0 == 97 && not (begins w (get_or t 4 0)))))))

-- ` t`, as in ` to `, where t is this letter
abbrev goes_on : ℕ → List ℕ → Bool
goes_on letter r = get_or r 0 0 == 32 && get_or r 1 0 == letter

abbrev pub FitsItem : Naming → Item → Type 0
FitsItem w (One n) = Fits w n
FitsItem w (Range a b) = Fits w a × Fits w b
FitsItem w (Steps p) = Fits w p.first × Fits w p.last × (p.step < 2 ^ 32)

-- ---- what a stop isn't

head_by : (w : Naming) (b : ℕ) (t : List ℕ) (semicolon comma space : Bool) → (b == 59) ≡ semicolon → (b == 44) ≡ comma → (b == 32) ≡ space
    → stops w (b ∷ t) ≡ true → is_word b ≡ false
unfolding stops
head_by w b t true comma space e f g h = rw (eqb-true b 59 e) refl
head_by w b t false true space e f g h = rw (eqb-true b 44 f) refl
head_by w b t false false true e f g h = rw (eqb-true b 32 g) refl
head_by w b t false false false e f g h = absurd (false≢true (rw (e, f, g) at h))

pub stops_word : (w : Naming) (r : List ℕ) → stops w r ≡ true → heads is_word r ≡ false
stops_word w [] h = refl
stops_word w (b ∷ t) h = head_by w b t (b == 59) (b == 44) (b == 32) refl refl refl h

digit_by : (w : Naming) (b : ℕ) (t : List ℕ) (semicolon comma space : Bool) → (b == 59) ≡ semicolon → (b == 44) ≡ comma → (b == 32) ≡ space
    → stops w (b ∷ t) ≡ true → is_digit b ≡ false
unfolding stops
digit_by w b t true comma space e f g h = rw (eqb-true b 59 e) refl
digit_by w b t false true space e f g h = rw (eqb-true b 44 f) refl
digit_by w b t false false true e f g h = rw (eqb-true b 32 g) refl
digit_by w b t false false false e f g h = absurd (false≢true (rw (e, f, g) at h))

pub stops_digit : (w : Naming) (r : List ℕ) → stops w r ≡ true → heads is_digit r ≡ false
stops_digit w [] h = refl
stops_digit w (b ∷ t) h = digit_by w b t (b == 59) (b == 44) (b == 32) refl refl refl h

on_by : (w : Naming) (letter b : ℕ) (t : List ℕ) (space on : Bool) → (letter == 111) ≡ false → (letter == 102) ≡ false → (letter == 97) ≡ false → (b == 32) ≡ space
    → (get_or t 0 0 == letter) ≡ on → stops w (b ∷ t) ≡ true → (space && on) ≡ false
unfolding stops
on_by w letter b t true true n o m e f h =
    let space : b ≡ 32 = eqb-true b 32 e in
    let here : get_or t 0 0 ≡ letter = eqb-true (get_or t 0 0) letter f in
    absurd (false≢true (rw (space, here, n, o, m) at h))
on_by w letter b t true false n o m e f h = refl
on_by w letter b t false on n o m e f h = refl

stops_on : (w : Naming) (letter : ℕ) (r : List ℕ) → (letter == 111) ≡ false → (letter == 102) ≡ false → (letter == 97) ≡ false → (0 == letter) ≡ false → stops w r ≡ true
    → goes_on letter r ≡ false
stops_on w letter [] n f m o h = refl
stops_on w letter (b ∷ t) n f m o h = rw (on_by w letter b t (b == 32) (get_or t 0 0 == letter) n f m refl refl h) refl

-- a name doesn't stand behind a comma
no_comma : (w : Naming) (t : List ℕ) → begins w (get_or t 0 0) ≡ true → stops w (44 ∷ 32 ∷ t) ≡ true → ⊥
unfolding stops
no_comma w t b h = false≢true (rw b at h)

no_and : (w : Naming) (t : List ℕ) → begins w (get_or t 0 0) ≡ true → stops w (32 ∷ 97 ∷ 110 ∷ 100 ∷ 32 ∷ t) ≡ true → ⊥
unfolding stops
no_and w t b h = false≢true (rw b at h)

-- ---- items

item_first : (w : Naming) (i : Item) (r : List ℕ) → FitsItem w i → begins w (get_or (item_text w i ++ r) 0 0) ≡ true
item_first w (One n) r f = (name_is w n f).first r
item_first w (Steps p) r f =
    ap (λ (t : List ℕ). begins w (get_or t 0 0)) (append_assoc (name_text w p.first) (codes " to " ++ (name_text w p.last ++ (codes " by " ++ decimal p.step))) r)
    ∙ (name_is w p.first f.0).first ((codes " to " ++ (name_text w p.last ++ (codes " by " ++ decimal p.step))) ++ r)
item_first w (Range a b) r f =
    ap (λ (t : List ℕ). begins w (get_or t 0 0)) (append_assoc (name_text w a) (codes " to " ++ name_text w b) r)
    ∙ (name_is w a f.0).first ((codes " to " ++ name_text w b) ++ r)

-- what may stand behind an item
abbrev Behind : List ℕ → Type 0
Behind r = (heads is_word r ≡ false) × (goes_on 116 r ≡ false) × (goes_on 98 r ≡ false)

-- numbers from a first to a last, and what stands behind them
abbrev ends_text : Naming → ℕ → ℕ → List ℕ → List ℕ
ends_text w a b r = name_text w a ++ (codes " to " ++ (name_text w b ++ r))

abbrev by_text : ℕ → List ℕ → List ℕ
by_text k r = codes " by " ++ (decimal k ++ r)

range_behind : (w : Naming) (a b : ℕ) (r : List ℕ) → item_text w (Range a b) ++ r ≡ ends_text w a b r
range_behind w a b r = append_assoc (name_text w a) (codes " to " ++ name_text w b) r

steps_behind : (w : Naming) (p : Progression) (r : List ℕ) → item_text w (Steps p) ++ r ≡ ends_text w p.first p.last (by_text p.step r)
steps_behind w p r =
    append_assoc (name_text w p.first) (codes " to " ++ (name_text w p.last ++ (codes " by " ++ decimal p.step))) r
    ∙ ap (λ (t : List ℕ). name_text w p.first ++ (codes " to " ++ t)) (append_assoc (name_text w p.last) (codes " by " ++ decimal p.step) r)

-- a single number isn't numbers from a first to a last
one_ends : (w : Naming) (n a b : ℕ) (r s : List ℕ) → Fits w n → Fits w a → Behind r → name_text w n ++ r ≡ ends_text w a b s → ⊥
one_ends w n a b r s f g h e =
    let c = cut is_word (name_text w n) (name_text w a) r (codes " to " ++ (name_text w b ++ s)) (name_is w n f).word (name_is w a g).word h.0 refl e in
    false≢true (sym h.1 ∙ ap (goes_on 116) c.1)

ends_apart : (w : Naming) (a b m n : ℕ) (r s : List ℕ) → Fits w a × Fits w b → Fits w m × Fits w n → heads is_word r ≡ false → heads is_word s ≡ false
    → ends_text w a b r ≡ ends_text w m n s → ((a ≡ m) × (b ≡ n)) × (r ≡ s)
ends_apart w a b m n r s f g h k e =
    let c = cut is_word (name_text w a) (name_text w m) (codes " to " ++ (name_text w b ++ r)) (codes " to " ++ (name_text w n ++ s)) (name_is w a f.0).word
    (name_is w m g.0).word refl refl e in
    let d = cut is_word (name_text w b) (name_text w n) r s (name_is w b f.1).word (name_is w n g.1).word h k
    (append_cancel_left (codes " to ") (name_text w b ++ r) (name_text w n ++ s) c.1) in
    ((name_same w a m f.0 g.0 c.0, name_same w b n f.1 g.1 d.0), d.1)

same_steps : (p q : Progression) → p.first ≡ q.first → p.last ≡ q.last → p.step ≡ q.step → Steps p ≡ Steps q
same_steps p q a b c = ap Steps (rw (a, b, c) refl)

-- a range isn't a progression
range_steps : (w : Naming) (a b : ℕ) (p : Progression) (r s : List ℕ) → FitsItem w (Range a b) → FitsItem w (Steps p) → Behind r
    → item_text w (Range a b) ++ r ≡ item_text w (Steps p) ++ s → ⊥
range_steps w a b p r s f g h e =
    let c = ends_apart w a b p.first p.last r (by_text p.step s) f (g.0, g.1) h.0 refl (sym (range_behind w a b r) ∙ (e ∙ steps_behind w p s)) in
    false≢true (sym h.2 ∙ ap (goes_on 98) c.1)

item_apart : (w : Naming) (i j : Item) (r s : List ℕ) → FitsItem w i → FitsItem w j → Behind r → Behind s
    → item_text w i ++ r ≡ item_text w j ++ s → (i ≡ j) × (r ≡ s)
item_apart w (One n) (One m) r s f g h k e =
    let c = cut is_word (name_text w n) (name_text w m) r s (name_is w n f).word (name_is w m g).word h.0 k.0 e in
    (ap One (name_same w n m f g c.0), c.1)
item_apart w (One n) (Range a b) r s f g h k e = absurd (one_ends w n a b r s f g.0 h (e ∙ range_behind w a b s))
item_apart w (One n) (Steps p) r s f g h k e = absurd (one_ends w n p.first p.last r (by_text p.step s) f g.0 h (e ∙ steps_behind w p s))
item_apart w (Range a b) (One m) r s f g h k e = absurd (one_ends w m a b s r g f.0 k (sym e ∙ range_behind w a b r))
item_apart w (Range a b) (Range m n) r s f g h k e =
    let c = ends_apart w a b m n r s f g h.0 k.0 (sym (range_behind w a b r) ∙ (e ∙ range_behind w m n s)) in
    let first : a ≡ m = c.0.0 in
    let last : b ≡ n = c.0.1 in
    (rw (first, last) refl, c.1)
item_apart w (Range a b) (Steps p) r s f g h k e = absurd (range_steps w a b p r s f g h e)
item_apart w (Steps p) (One m) r s f g h k e = absurd (one_ends w m p.first p.last s (by_text p.step r) g f.0 k (sym e ∙ steps_behind w p r))
item_apart w (Steps p) (Range m n) r s f g h k e = absurd (range_steps w m n p s r g f k (sym e))
item_apart w (Steps p) (Steps q) r s f g h k e =
    let c = ends_apart w p.first p.last q.first q.last (by_text p.step r) (by_text q.step s) (f.0, f.1) (g.0, g.1) refl refl
    (sym (steps_behind w p r) ∙ (e ∙ steps_behind w q s)) in
    let d = cut is_word (decimal p.step) (decimal q.step) r s (name_is Numbers p.step f.2).word (name_is Numbers q.step g.2).word h.0 k.0
    (append_cancel_left (codes " by ") _ _ c.1) in
    (same_steps p q c.0.0 c.0.1 (name_same Numbers p.step q.step f.2 g.2 d.0), d.1)

-- ---- lists

more_behind : (w : Naming) (is : List Item) (r : List ℕ) → stops w r ≡ true → Behind (more_text w is ++ r)
more_behind w [] r h = (stops_word w r h, stops_on w 116 r refl refl refl refl h, stops_on w 98 r refl refl refl refl h)
more_behind w (i ∷ []) r h = (refl, refl, refl)
more_behind w (i ∷ j ∷ is) r h = (refl, refl, refl)

one_more : (w : Naming) (i : Item) (r : List ℕ) → more_text w (i ∷ []) ++ r ≡ 32 ∷ 97 ∷ 110 ∷ 100 ∷ 32 ∷ (item_text w i ++ r)
one_more w i r = refl

two_more : (w : Naming) (i j : Item) (is : List Item) (r : List ℕ)
    → more_text w (i ∷ j ∷ is) ++ r ≡ 44 ∷ 32 ∷ (item_text w i ++ (more_text w (j ∷ is) ++ r))
two_more w i j is r = ap (λ (t : List ℕ). 44 ∷ 32 ∷ t) (append_assoc (item_text w i) (more_text w (j ∷ is)) r)

none_more : (w : Naming) (j : Item) (js : List Item) (r s : List ℕ) → AllByRecursion (FitsItem w) (j ∷ js) → stops w r ≡ true
    → r ≡ more_text w (j ∷ js) ++ s → ⊥
none_more w j [] r s g h e = no_and w (item_text w j ++ s) (item_first w j s g.0) (sym (ap (stops w) (e ∙ one_more w j s)) ∙ h)
none_more w j (k ∷ js) r s g h e =
    no_comma w (item_text w j ++ (more_text w (k ∷ js) ++ s)) (item_first w j (more_text w (k ∷ js) ++ s) g.0)
    (sym (ap (stops w) (e ∙ two_more w j k js s)) ∙ h)

-- the first bytes differ
pub unlike : (x y : ℕ) (r s : List ℕ) → (x == y) ≡ false → x ∷ r ≡ y ∷ s → ⊥
unlike x y r s n e = let same : x ≡ y = ap (λ (t : List ℕ). get_or t 0 0) e in false≢true (sym n ∙ eq-eqb x y same)

-- a text whose byte at a place passes a test isn't one whose byte there doesn't
pub unlike_at : (p : ℕ → Bool) (k : ℕ) (x y : List ℕ) → p (get_or x k 0) ≡ false → p (get_or y k 0) ≡ true → x ≡ y → ⊥
unlike_at p k x y f t e = false≢true (sym f ∙ (ap (λ (z : List ℕ). p (get_or z k 0)) e ∙ t))

pub more_apart : (w : Naming) (is js : List Item) (r s : List ℕ) → AllByRecursion (FitsItem w) is → AllByRecursion (FitsItem w) js
    → stops w r ≡ true → stops w s ≡ true → more_text w is ++ r ≡ more_text w js ++ s → (is ≡ js) × (r ≡ s)
more_apart w [] [] r s f g h k e = (refl, e)
more_apart w [] (j ∷ js) r s f g h k e = absurd (none_more w j js r s g h e)
more_apart w (i ∷ is) [] r s f g h k e = absurd (none_more w i is s r f k (sym e))
more_apart w (i ∷ []) (j ∷ []) r s f g h k e =
    let c = item_apart w i j r s f.0 g.0 (more_behind w [] r h) (more_behind w [] s k)
    (append_cancel_left (codes " and ") (item_text w i ++ r) (item_text w j ++ s) e) in
    (ap (λ (x : Item). x ∷ []) c.0, c.1)
more_apart w (i ∷ []) (j ∷ l ∷ js) r s f g h k e = absurd (unlike 32 44 _ _ refl e)
more_apart w (i ∷ l ∷ is) (j ∷ []) r s f g h k e = absurd (unlike 44 32 _ _ refl e)
more_apart w (i ∷ l ∷ is) (j ∷ m ∷ js) r s f g h k e =
    let c = item_apart w i j (more_text w (l ∷ is) ++ r) (more_text w (m ∷ js) ++ s) f.0 g.0 (more_behind w (l ∷ is) r h) (more_behind w (m ∷ js) s k)
    (append_cancel_left (codes ", ") (item_text w i ++ (more_text w (l ∷ is) ++ r)) (item_text w j ++ (more_text w (m ∷ js) ++ s))
    (sym (two_more w i l is r) ∙ (e ∙ two_more w j m js s))) in
    let d = more_apart w (l ∷ is) (m ∷ js) r s f.1 g.1 h k c.1 in
    (rw (c.0, d.0) refl, d.1)

pub list_first : (w : Naming) (i : Item) (is : List Item) (r : List ℕ) → FitsItem w i → begins w (get_or (list_text w (i ∷ is) ++ r) 0 0) ≡ true
list_first w i is r f =
    ap (λ (t : List ℕ). begins w (get_or t 0 0)) (append_assoc (item_text w i) (more_text w is) r) ∙ item_first w i (more_text w is ++ r) f

pub list_apart : (w : Naming) (is js : List Item) (r s : List ℕ) → (is ≡ [] → ⊥) → (js ≡ [] → ⊥) → AllByRecursion (FitsItem w) is
    → AllByRecursion (FitsItem w) js → stops w r ≡ true → stops w s ≡ true → list_text w is ++ r ≡ list_text w js ++ s → (is ≡ js) × (r ≡ s)
list_apart w [] js r s n m f g h k e = absurd (n refl)
list_apart w (i ∷ is) [] r s n m f g h k e = absurd (m refl)
list_apart w (i ∷ is) (j ∷ js) r s n m f g h k e =
    let c = item_apart w i j (more_text w is ++ r) (more_text w js ++ s) f.0 g.0 (more_behind w is r h) (more_behind w js s k)
    (sym (append_assoc (item_text w i) (more_text w is) r) ∙ (e ∙ append_assoc (item_text w j) (more_text w js) s)) in
    let d = more_apart w is js r s f.1 g.1 h k c.1 in
    (rw (c.0, d.0) refl, d.1)
