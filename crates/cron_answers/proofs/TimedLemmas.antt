-- Fires as lines, one after another.
use Rattle.std.proofs.Common.{◌≡◌, ◌⊎◌, ℕ, Option, List, [], ◌∷◌, ◌++◌, true, false, refl, sym, ap, ◌∙◌, subst, inl, inr, append_assoc, append-nil}
use Rattle.jiff_core.specs.declared.error.Error.{Error}
use Rattle.jiff_core.specs.declared.error.Error.TheVariants.{OutOfMemory}
use Rattle.cron_looks.specs.declared.times.Times.{Times}
use Rattle.cron_moments.specs.Readings.{Reading}
use Rattle.cron_answers.specs.Fires.{first_of, is_none_wanted, one_less}
use Rattle.cron_answers.specs.Listings.{IsFormatTrouble, IsRefusedFormat}
use Rattle.cron_answers.specs.TimedLines.{AreLines, IsLine, IsLinesError}
use Rattle.cron_looks.specs.Times.{IsTimeError, is_out_of_memory}
use Rattle.cron_looks.specs.declared.times.Times.TheVariants.{Plain, Shown, Format}
use Rattle.cron_answers.specs.declared.trouble.Trouble.{Trouble}
use Rattle.cron_answers.specs.declared.trouble.Trouble.TheVariants as trouble
use Rattle.cron_answers.proofs.RowLemmas.{first_more, first_of_none, none_wanted}

-- the line of one more fire
pub line_on : {A : Type 0} (times : Times) (text : A → List ℕ) (moment : A → Reading) (fires : List A) (fire : A) (lines line : List ℕ)
    → AreLines times text moment fires lines → IsLine times (text fire) (moment fire) line → AreLines times text moment (fires ++ fire ∷ []) (lines ++ line)
line_on times text moment [] fire lines line are is =
    (line, [], ap (λ (l : List ℕ). l ++ line) are ∙ sym (append-nil line), is, refl)
line_on times text moment (f ∷ fires) fire lines line (here, rest, cut, first, others) is =
    (here, rest ++ line, ap (λ (l : List ℕ). l ++ line) cut ∙ append_assoc here rest line, first, line_on times text moment fires fire rest line others is)

-- the time of a later fire can't be written
pub error_on : {A : Type 0} (times : Times) (moment : A → Reading) (fires rest : List A) (why : Error)
    → IsLinesError times moment rest why → IsLinesError times moment (fires ++ rest) why
error_on times moment [] rest why is = is
error_on times moment (f ∷ fires) rest why is = inr (error_on times moment fires rest why is)

-- one more fire is taken of those that are wanted
pub take_on : {A : Type 0} (all taken : List A) (most : Option ℕ) (fires rest : List A) (fire : A)
    → all ≡ taken ++ first_of most fires → is_none_wanted most ≡ false → fires ≡ fire ∷ rest
    → all ≡ (taken ++ fire ∷ []) ++ first_of (one_less most) rest
take_on {A} all taken most fires rest fire e wanted cut =
    e ∙ (ap (λ (fs : List A). taken ++ first_of most fs) cut
    ∙ (ap (λ (fs : List A). taken ++ fs) (first_more most fire rest wanted) ∙ sym (append_assoc taken (fire ∷ []) (first_of (one_less most) rest))))

-- all that are wanted were taken, since none is left
pub all_left : {A : Type 0} (all taken : List A) (most : Option ℕ) (fires : List A) → all ≡ taken ++ first_of most fires → fires ≡ [] → taken ≡ all
all_left {A} all taken most fires e none =
    sym (e ∙ (ap (λ (fs : List A). taken ++ first_of most fs) none ∙ (ap (λ (fs : List A). taken ++ fs) (first_of_none most) ∙ append-nil taken)))

-- all that are wanted were taken, since no more are wanted
pub all_wanted : {A : Type 0} (all taken : List A) (most : Option ℕ) (fires : List A) → all ≡ taken ++ first_of most fires → is_none_wanted most ≡ true → taken ≡ all
all_wanted {A} all taken most fires e done =
    sym (e ∙ (ap (λ (fs : List A). taken ++ fs) (none_wanted most fires done) ∙ append-nil taken))

-- the time of the fire that comes after the taken ones can't be written
pub failed_on : {A : Type 0} (times : Times) (moment : A → Reading) (all taken rest : List A) (fire : A) (why : Error)
    → all ≡ (taken ++ fire ∷ []) ++ rest → IsTimeError times (moment fire) why → IsLinesError times moment all why
failed_on {A} times moment all taken rest fire why e is =
    subst (λ (fs : List A). IsLinesError times moment fs why) (sym (e ∙ append_assoc taken (fire ∷ []) rest))
    (error_on times moment taken (fire ∷ rest) why (inl is))

-- a trouble with times because of an error: memory ran out, or Q tells of it
refused_because : (times : Times) (error : Error) (Q : Error → Type 0) (word : List ℕ) → IsRefusedFormat times (λ why. why ≡ error) word
    → (error ≡ OutOfMemory) ⊎ Q error → IsRefusedFormat times Q word
refused_because (Format format) error Q word (same, (why, other, is)) (inl out) =
    let h : true ≡ false = sym (ap is_out_of_memory (is ∙ out)) ∙ other in absurd (cc)
refused_because (Format format) error Q word (same, (why, other, is)) (inr holds) = (same, (why, other, subst Q (sym is) holds))
refused_because Plain error Q word is holds = absurd is
refused_because (Shown look) error Q word is holds = absurd is

pub because : (times : Times) (error : Error) (Q : Error → Type 0) (t : Trouble) → IsFormatTrouble times (λ why. why ≡ error) t
    → (error ≡ OutOfMemory) ⊎ Q error → IsFormatTrouble times Q t
because times error Q (trouble.Format word) is holds = refused_because times error Q word.now is holds
because times error Q trouble.NoMemory is holds = is
because times error Q (trouble.Expression text refusal) is holds = absurd is
because times error Q (trouble.Zone text why) is holds = absurd is
because times error Q (trouble.Instant text) is holds = absurd is
because times error Q (trouble.Whole text) is holds = absurd is
because times error Q (trouble.Order start end) is holds = absurd is
