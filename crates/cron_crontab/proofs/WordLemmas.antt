-- The words of a text, by where they begin and end; texts cut at a mark; and where a text may be cut.
use Rattle.std.proofs.Common.{◌≡◌, ℕ, zero, suc, ◌+◌, ◌-◌, ◌<◌, ◌≤◌, Bool, true, false, List, [], ◌∷◌, length, take, drop, get_or, refl, sym, ap, ◌∙◌, subst, arith, inl, inr}
use Rattle.std.specs.Prelude.{filter, not, ◌==◌}
use Rattle.std.specs.List.{slice_split, position_or_len, before_first, after_first}
use Rattle.std.proofs.lemmas.List.Splits.{slice_split_first}
use Rattle.std.specs.Str.{IsUtf8, IsCharBoundary}
use Rattle.std.proofs.lemmas.Str.{IsCharBoundary-start, IsCharBoundary-after_ascii, IsCharBoundary-before_ascii}
use Rattle.std.proofs.lemmas.List.Sums.{prefix_len_stops}
use Rattle.std.proofs.lemmas.List.{get_or-drop, drop-drop, length-drop, length-take}
use Rattle.std.proofs.Math.Nat.{min-eq_left}
use Rattle.std.proofs.lemmas.Bool.{cases_lt, eqb-true, true≢false}
use Rattle.cron_text.specs.Tokens.{is_space}
use Rattle.cron_crontab.specs.Crontab.{is_break, is_filled, words}
use Rattle.cron_crontab.specs.Items.{pieces}

-- the first piece of a text ends at the index, and the words behind it are those from the index on
pub record IsWord (bs : List ℕ) (n : ℕ) : Type 0 where
  pub rest : List (List ℕ)
  pub is : slice_split is_space bs ≡ take n bs ∷ rest
  pub more : filter is_filled rest ≡ words (drop n bs)

word_nil : IsWord [] 0
word_nil = record { rest = []; is = refl; more = refl }

words_space : (c : ℕ) (cs : List ℕ) → is_space c ≡ true → words (c ∷ cs) ≡ words cs
words_space c cs space = rw space refl

word_none : (c : ℕ) (cs : List ℕ) → is_space c ≡ true → IsWord (c ∷ cs) 0
word_none c cs space = record { rest = slice_split is_space cs; is = rw space refl; more = sym (words_space c cs space) }

word_more : (c : ℕ) (cs : List ℕ) (n : ℕ) → is_space c ≡ false → IsWord cs n → IsWord (c ∷ cs) (suc n)
word_more c cs n other w = record { rest = w.rest; is = rw (other, w.is) refl; more = w.more }

pub word_here : (bs : List ℕ) (n : ℕ) → n ≤ length bs → ((k : ℕ) → k < n → is_space (get_or bs k 0) ≡ false)
    → (n < length bs → is_space (get_or bs n 0) ≡ true) → IsWord bs n
word_here [] zero le before end = word_nil
word_here [] (suc n) le before end = absurd (omega arith)
word_here (c ∷ cs) zero le before end = word_none c cs (end (omega arith))
word_here (c ∷ cs) (suc n) le before end =
    word_more c cs n (before 0 (omega arith)) (word_here cs n (omega arith) (λ k lt. before (suc k) (omega arith)) (λ lt. end (omega arith)))

filled_first : (n : ℕ) (w : List ℕ) (rest : List (List ℕ)) → length w ≡ n → 0 < n → filter is_filled (w ∷ rest) ≡ w ∷ filter is_filled rest
filled_first n w rest long some = grind arith

first_word : (bs word rest : List ℕ) (n : ℕ) → IsWord bs n → word ≡ take n bs → drop n bs ≡ rest → length word ≡ n → 0 < n → words bs ≡ word ∷ words rest
first_word bs word rest n w is behind size some =
    ap (filter is_filled) (w.is ∙ ap (λ v. v ∷ w.rest) (sym is)) ∙ filled_first n word w.rest size some ∙ ap (λ ws. word ∷ ws) (w.more ∙ ap words behind)

-- white space at the front is passed over
pub words_skip : (bs : List ℕ) (n : ℕ) → n ≤ length bs → ((k : ℕ) → k < n → is_space (get_or bs k 0) ≡ true) → words bs ≡ words (drop n bs)
words_skip bs zero le space = refl
words_skip [] (suc n) le space = absurd (omega arith)
words_skip (c ∷ cs) (suc n) le space = words_space c cs (space 0 (omega arith)) ∙ words_skip cs n (omega arith) (λ k lt. space (suc k) (omega arith))

-- the word between two indices
pub word_between : (text : List ℕ) (from to : ℕ) → from < to → to ≤ length text → ((k : ℕ) → k < from → is_space (get_or text k 0) ≡ true)
    → ((k : ℕ) → from ≤ k → k < to → is_space (get_or text k 0) ≡ false)
    → (to < length text → is_space (get_or text to 0) ≡ true) → words text ≡ take (to - from) (drop from text) ∷ words (drop to text)
word_between text from to lt high space before end =
    let long = length-drop from text in
    let same : from + (to - from) ≡ to = omega arith in
    let w = word_here (drop from text) (to - from) (omega arith)
    (λ k below. rw (get_or-drop from text k 0) (before (from + k) (omega arith) (omega arith)))
    (λ below. rw (get_or-drop from text (to - from) 0, same) (end (omega arith))) in
    let size : length (take (to - from) (drop from text)) ≡ to - from = length-take (to - from) (drop from text) ∙ min-eq_left (omega arith) in
    let behind : drop (to - from) (drop from text) ≡ drop to text = rw (drop-drop, same) refl in
    words_skip text from (omega arith) space
    ∙ first_word (drop from text) (take (to - from) (drop from text)) (drop to text) (to - from) w refl behind size (omega arith)

-- a word has a byte
pub some_byte : (text : List ℕ) (from to : ℕ) → from ≤ to → from < length text → is_space (get_or text from 0) ≡ false
    → (to < length text → is_space (get_or text to 0) ≡ true) → from < to
some_byte text from to le lt here end = elim (cases_lt from to) [
  | inl less ↦ less
  | inr more ↦
      let same : to ≡ from = omega arith in
      let space : is_space (get_or text from 0) ≡ true = subst (λ (k : ℕ). is_space (get_or text k 0) ≡ true) same (end (omega arith)) in
      absurd (true≢false (sym space ∙ here))
]

-- where only white space stands there are no words
pub no_words : (text : List ℕ) → ((k : ℕ) → k < length text → is_space (get_or text k 0) ≡ true) → words text ≡ []
no_words [] space = refl
no_words (c ∷ cs) space = words_space c cs (space 0 (omega arith)) ∙ no_words cs (λ k lt. space (suc k) (omega arith))

-- ---- marks

-- a text without the mark is one piece
pub one_piece : (mark : ℕ) (text : List ℕ) → position_or_len (λ b. b == mark) text ≡ length text → pieces mark text ≡ text ∷ []
one_piece mark [] none = refl
one_piece mark (c ∷ cs) none = by_test (c == mark) refl none (λ h. one_piece mark cs h)
  where
    by_test : (b : Bool) → (c == mark) ≡ b → position_or_len (λ b. b == mark) (c ∷ cs) ≡ length (c ∷ cs)
        → (position_or_len (λ b. b == mark) cs ≡ length cs → pieces mark cs ≡ cs ∷ []) → pieces mark (c ∷ cs) ≡ (c ∷ cs) ∷ []
    by_test true is whole rest = let none = rw is at whole in absurd (omega arith)
    by_test false is whole rest = let more = rw is at whole in rw (is, rest (omega arith)) refl

-- the piece before the first mark, and those behind it
pub first_piece : (mark : ℕ) (text piece rest : List ℕ) → piece ≡ before_first (λ b. b == mark) text → rest ≡ after_first (λ b. b == mark) text
    → position_or_len (λ b. b == mark) text < length text → pieces mark text ≡ piece ∷ pieces mark rest
first_piece mark text piece rest is behind lt = rw (is, behind) (slice_split_first (λ b. b == mark) text 0 lt)

-- ---- where a text may be cut

not_not : (b : Bool) → not b ≡ false → b ≡ true
not_not true is = refl
not_not false is = absurd cc

passes_at : (p : ℕ → Bool) (text : List ℕ) → position_or_len p text < length text → p (get_or text (position_or_len p text) 0) ≡ true
passes_at p text lt = not_not (p (get_or text (position_or_len p text) 0)) (prefix_len_stops (λ b. not (p b)) text 0 lt)

mark_at : (mark : ℕ) (text : List ℕ) → position_or_len (λ b. b == mark) text < length text → get_or text (position_or_len (λ b. b == mark) text) 0 ≡ mark
mark_at mark text lt = eqb-true (get_or text (position_or_len (λ b. b == mark) text) 0) mark (passes_at (λ b. b == mark) text lt)

space_ascii : (c : ℕ) → is_space c ≡ true → c < 128
space_ascii c h = grind arith

-- behind white space, or where the text begins
pub boundary-after : (text : List ℕ) (at : ℕ) → IsUtf8 text → at ≤ length text → ((k : ℕ) → k < at → is_space (get_or text k 0) ≡ true) → IsCharBoundary text at
boundary-after text zero utf8 le space = IsCharBoundary-start text utf8
boundary-after text (suc n) utf8 le space =
    let same : n + 1 ≡ suc n = omega arith in
    let low = space_ascii (get_or text n 0) (space n (omega arith)) in
    subst (λ (k : ℕ). IsCharBoundary text k) same (IsCharBoundary-after_ascii text n utf8 (omega arith) low)

mark_ascii : (mark : ℕ) (text : List ℕ) (at : ℕ) → mark < 128 → at ≡ position_or_len (λ b. b == mark) text → at < length text → get_or text at 0 < 128
mark_ascii mark text at low is lt =
    let same : get_or text (position_or_len (λ b. b == mark) text) 0 ≡ mark = mark_at mark text (omega arith) in
    rw is (omega arith)

-- a text may be cut at its first mark, and behind it
pub boundary-mark : (mark : ℕ) (text : List ℕ) (at : ℕ) → mark < 128 → at ≡ position_or_len (λ b. b == mark) text → at < length text → IsCharBoundary text at
boundary-mark mark text at low is lt = IsCharBoundary-before_ascii text at lt (mark_ascii mark text at low is lt)

pub boundary-behind : (mark : ℕ) (text : List ℕ) (at : ℕ) → mark < 128 → IsUtf8 text → at ≡ position_or_len (λ b. b == mark) text → at < length text
    → IsCharBoundary text (at + 1)
boundary-behind mark text at low utf8 is lt = IsCharBoundary-after_ascii text at utf8 lt (mark_ascii mark text at low is lt)

break_ascii : (c : ℕ) → is_break c ≡ true → c < 128
break_ascii c h = grind arith

-- behind the first line break
pub boundary-break : (text : List ℕ) (at : ℕ) → IsUtf8 text → at ≡ position_or_len is_break text → at < length text → IsCharBoundary text (at + 1)
boundary-break text at utf8 is lt =
    let low : get_or text (position_or_len is_break text) 0 < 128 = break_ascii (get_or text (position_or_len is_break text) 0) (passes_at is_break text (omega arith)) in
    IsCharBoundary-after_ascii text at utf8 lt (rw is low)
