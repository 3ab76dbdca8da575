-- Objects of JSON whose members were written one after another.
use Rattle.std.proofs.Common.{◌≡◌, ◌++◌, ℕ, List, [], ◌∷◌, ap, ◌∙◌, append_assoc}
use Rattle.json.specs.Print.{print}
use Rattle.json.specs.Token.{Token, end_object}
use Rattle.json.specs.Written.{Written}
use Rattle.cron_tab_rows.specs.Members.{object_row}
use Rattle.cron_tab_rows.specs.Writing.{Begins, Writes}

-- members behind others
pub written_on : (a b : List Token) (old mid new : Written) → Writes a old mid → Writes b mid new → Writes (a ++ b) old new
written_on a b old mid new (one, front) (two, same) = (two ∙ (ap (λ (l : List Token). l ++ b) one ∙ append_assoc old.tokens a b), same ∙ front)

-- the whole object, which was begun in an empty row
pub object_written : (members : List Token) (before : List ℕ) (begun ended : Written) (row : List ℕ) → before ≡ [] → Begins before begun
    → Writes members begun ended → row ≡ ended.before ++ (print (ended.tokens ++ end_object ∷ []) ++ 10 ∷ []) → row ≡ object_row members
object_written members before begun ended row empty (first, front) (rest, same) is =
    is
    ∙ (ap (λ (l : List ℕ). l ++ (print (ended.tokens ++ end_object ∷ []) ++ 10 ∷ [])) (same ∙ (front ∙ empty))
    ∙ ap (λ (ts : List Token). print (ts ++ end_object ∷ []) ++ 10 ∷ []) (rest ∙ ap (λ (ts : List Token). ts ++ members) first))
