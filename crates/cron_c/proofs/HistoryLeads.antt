-- Readings that come one after the other, as a list of all that have a property begins with them.
use Rattle.std.proofs.Common.{◌≡◌, true, List, [], ◌∷◌, ◌++◌, Option, Some, None, ◌⊎◌, inl, inr, sym, ap, subst, ◌∙◌}
use Rattle.cron_moments.specs.Readings.{Reading}
use Rattle.cron_instants.specs.Instants.{Ascends, IsAmong, IsEarliest}
use Rattle.cron_instants.specs.Order.{is_earlier}
use Rattle.cron_time.proofs.ListLemmas.{among-cases, among-first, among-none, among-rest}
use Rattle.cron_instants.proofs.AscentLemmas.{earlier-not_back, earlier-not_itself}
use Rattle.cron_c.specs.Histories.{Leads}
use Rattle.cron_c.proofs.Eras.{alike}

pub leads_alike : (P Q : Reading → Type 0) (w : List Reading) (next : Option Reading) → ((r : Reading) → P r → Q r) → ((r : Reading) → Q r → P r)
    → Leads P w next → Leads Q w next
unfolding Leads
leads_alike P Q [] next to from l = alike P Q next to from l
leads_alike P Q (x ∷ w) next to from l = (
  alike P Q (Some x) to from l.0,
  leads_alike (λ q. P q × (is_earlier x q ≡ true)) (λ q. Q q × (is_earlier x q ≡ true)) w next (λ q h. (to q h.0, h.1)) (λ q h. (from q h.0, h.1)) l.1,
)

pub leads_none : (P : Reading → Type 0) (next : Option Reading) → IsEarliest P next → Leads P [] next
unfolding Leads
leads_none P next first = first

pub leads_first : (P : Reading → Type 0) (r : Reading) (w : List Reading) (next : Option Reading) → IsEarliest P (Some r)
    → Leads (λ q. P q × (is_earlier r q ≡ true)) w next → Leads P (r ∷ w) next
unfolding Leads
leads_first P r w next first rest = (first, rest)

-- each of them has the property
pub leads_hold : (P : Reading → Type 0) (w : List Reading) (next : Option Reading) → Leads P w next → (r : Reading) → IsAmong w r → P r
unfolding Leads
leads_hold P [] next l r h = absurd (among-none r h)
leads_hold P (x ∷ w) next l r h = elim (among-cases x w r h) [
  | inl e ↦ subst P (sym e) l.0.0
  | inr there ↦ (leads_hold (λ q. P q × (is_earlier x q ≡ true)) w next l.1 r there).0
]

-- and so has the next one
pub leads_next : (P : Reading → Type 0) (w : List Reading) (next : Reading) → Leads P w (Some next) → P next
unfolding Leads
leads_next P [] next l = l.0
leads_next P (x ∷ w) next l = (leads_next (λ q. P q × (is_earlier x q ≡ true)) w next l.1).0

-- all with one property, and then those with another that come later
pub leads_append : (P Q R : Reading → Type 0) (w v : List Reading) (next : Option Reading) → Leads P w None → Leads Q v next
    → ((r : Reading) → P r → R r) → ((r : Reading) → Q r → R r) → ((r : Reading) → R r → P r ⊎ Q r)
    → ((a b : Reading) → P a → Q b → is_earlier a b ≡ true) → Leads R (w ++ v) next
unfolding Leads
leads_append P Q R [] v next none l left right split later =
    leads_alike Q R v next right (λ r h. elim (split r h) [ inl p ↦ absurd (none r p) | inr q ↦ q ]) l
leads_append P Q R (x ∷ w) v next p l left right split later = (
  (
    left x p.0.0,
    λ q h. elim (split q h) [
      | inl of_p ↦ p.0.1 q of_p
      | inr of_q ↦ earlier-not_back x q (later x q p.0.0 of_q)
    ],
  ),
  leads_append (λ q. P q × (is_earlier x q ≡ true)) Q (λ q. R q × (is_earlier x q ≡ true)) w v next p.1 l (λ r h. (left r h.0, h.1))
      (λ r h. (right r h, later x r p.0.0 h))
      (λ r h. elim (split r h.0) [ inl of_p ↦ inl (of_p, h.1) | inr of_q ↦ inr of_q ])
      (λ a b h k. later a b h.0 k),
)

-- others that come later than all of them change nothing
pub leads_wider : (P Q : Reading → Type 0) (w : List Reading) (next : Reading) → Leads P w (Some next) → ((r : Reading) → P r → Q r)
    → ((r : Reading) → Q r → P r ⊎ ((a : Reading) → P a → is_earlier a r ≡ true)) → Leads Q w (Some next)
unfolding Leads
leads_wider P Q [] next l to split = (
  to next l.0,
  λ q h. elim (split q h) [
    | inl of_p ↦ l.1 q of_p
    | inr later ↦ earlier-not_back next q (later next l.0)
  ],
)
leads_wider P Q (x ∷ w) next l to split = (
  (
    to x l.0.0,
    λ q h. elim (split q h) [
      | inl of_p ↦ l.0.1 q of_p
      | inr later ↦ earlier-not_back x q (later x l.0.0)
    ],
  ),
  leads_wider (λ q. P q × (is_earlier x q ≡ true)) (λ q. Q q × (is_earlier x q ≡ true)) w next l.1 (λ r h. (to r h.0, h.1))
      (λ r h. elim (split r h.0) [ inl of_p ↦ inl (of_p, h.1) | inr later ↦ inr (λ a k. later a k.0) ]),
)

-- ---- lists that ascend

first_of_rest : (x : Reading) (l : List Reading) → Ascends (x ∷ l) → IsEarliest (IsAmong (x ∷ l)) (Some x)
first_of_rest x l up = (
  among-first x l,
  λ q h. elim (among-cases x l q h) [
    | inl e ↦ ap (λ v. is_earlier v x) e ∙ earlier-not_itself x
    | inr there ↦ earlier-not_back x q (up.0 q there)
  ],
)

in_rest : (x : Reading) (l : List Reading) → Ascends (x ∷ l) → (r : Reading) → IsAmong l r → IsAmong (x ∷ l) r × (is_earlier x r ≡ true)
in_rest x l up r h = (among-rest x r l h, up.0 r h)

of_rest : (x : Reading) (l : List Reading) (r : Reading) → IsAmong (x ∷ l) r × (is_earlier x r ≡ true) → IsAmong l r
of_rest x l r h = elim (among-cases x l r h.0) [
  | inl e ↦ let itself = earlier-not_itself x in let other : is_earlier x x ≡ true = ap (is_earlier x) (sym e) ∙ h.1 in absurd (cc)
  | inr there ↦ there
]

pub whole_leads : (l : List Reading) → Ascends l → Leads (IsAmong l) l None
unfolding Leads
whole_leads [] up = λ r h. among-none r h
whole_leads (x ∷ l) up = (
  first_of_rest x l up,
  leads_alike (IsAmong l) (λ q. IsAmong (x ∷ l) q × (is_earlier x q ≡ true)) l None (in_rest x l up) (of_rest x l) (whole_leads l up.1),
)

pub page_leads : (w : List Reading) (next : Reading) (left : List Reading) → Ascends (w ++ next ∷ left) → Leads (IsAmong (w ++ next ∷ left)) w (Some next)
unfolding Leads
page_leads [] next left up = first_of_rest next left up
page_leads (x ∷ w) next left up = (
  first_of_rest x (w ++ next ∷ left) up,
  leads_alike (IsAmong (w ++ next ∷ left)) (λ q. IsAmong (x ∷ w ++ next ∷ left) q × (is_earlier x q ≡ true)) w (Some next)
      (in_rest x (w ++ next ∷ left) up) (of_rest x (w ++ next ∷ left)) (page_leads w next left up.1),
)
