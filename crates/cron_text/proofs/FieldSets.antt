-- What the reader of a field answers: the field is taken, or its first refused item is told.
use Rattle.std.proofs.Common.{◌≡◌, ◌&&◌, Option, Some, None, List, [], ◌∷◌, ◌++◌, refl, sym, ap, ◌∙◌, subst, append_assoc, append-nil}
use Rattle.std.specs.List.{All}
use Rattle.std.specs.Option.{option_map_or}
use Rattle.cron_units.specs.Units.{TimeUnit, FieldSet}
use Rattle.cron_units.specs.Items.{Item}
use Rattle.cron_units.specs.Denotation.{Denotes}
use Rattle.cron_units.specs.Refusals.{Refusal, IsRefusedFor, IsUnrefused, IsFirstRefusal, message}
use Rattle.cron_text.specs.Fault.{TakesField, RefusesField}
use Rattle.cron_units.specs.Tables.{definition_view}
use Rattle.cron_units.specs.Views.{refusal_view}
use Rattle.cron_text.specs.declared.faults.Fault.{Fault}
use Rattle.cron_text.specs.declared.faults.Fault.TheVariants.{Syntax, Refused}
use Rattle.cron_units.specs.declared.specifier.messages.RefusedItem.{RefusedItem}
use Rattle.cron_text.specs.Inner.Faults.{TellsItem, IsUnread}
use Rattle.cron_text.specs.Inner.FieldReading.{FieldState, joined, next_state, lone_item, with_end, with_step, furthest, field_at, state_items}
use Rattle.cron_text.specs.Fields.{spacing_fits}
use Rattle.cron_text.specs.Tokens.{Token, Symbol, symbol_of, comma, dash, slash}
use Rattle.cron_text.proofs.Longest.{read_longest}
use Rattle.cron_text.proofs.FieldStates.{mapped, chosen}

-- ---- finished items stay

-- the finished items of a later state begin with those of an earlier one
record Extends (s t : FieldState) : Type 0 where
  more : List Item
  is : t.done ≡ s.done ++ more

next_extends : (u : TimeUnit) (s : FieldState) (a : Symbol) (x : Token) (t : FieldState) → joined u s a x ≡ Some t → Extends s t
next_extends u s comma x t h =
    let m = mapped (λ (i : Item). record { done = s.done ++ s.item ∷ []; item = i; last = x }) (lone_item u (symbol_of x)) t h in
    record { more = s.item ∷ []; is = sym (ap (λ (z : FieldState). z.done) m.2) }
next_extends u s dash x t h =
    let m = mapped (λ (i : Item). record { done = s.done; item = i; last = x }) (with_end s.item (symbol_of x)) t h in
    record { more = []; is = sym (ap (λ (z : FieldState). z.done) m.2) ∙ sym (append-nil s.done) }
next_extends u s slash x t h =
    let m = mapped (λ (i : Item). record { done = s.done; item = i; last = x }) (with_step s.item (symbol_of x)) t h in
    record { more = []; is = sym (ap (λ (z : FieldState). z.done) m.2) ∙ sym (append-nil s.done) }
next_extends u s a x t h = absurd (cc)

extends_self : (s : FieldState) → Extends s s
extends_self s = record { more = []; is = sym (append-nil s.done) }

extends_trans : (r s t : FieldState) → Extends r s → Extends s t → Extends r t
extends_trans r s t e f =
    record { more = e.more ++ f.more; is = f.is ∙ (ap (λ (zs : List Item). zs ++ f.more) e.is ∙ append_assoc r.done e.more f.more) }

extends_from : (u : TimeUnit) (s : FieldState) (c x : Token) (ts : List Token) (r : Option FieldState) → next_state u s c x ≡ r
    → ((t : FieldState) → Extends t (furthest u t ts).0)
    → Extends s (option_map_or (λ (t : FieldState). furthest u t ts) r (s, c ∷ x ∷ ts)).0
extends_from u s c x ts None h again = extends_self s
extends_from u s c x ts (Some t) h again =
    let j = chosen (spacing_fits s.last c && spacing_fits c x) (joined u s (symbol_of c) x) t h in
    extends_trans s t (furthest u t ts).0 (next_extends u s (symbol_of c) x t j.1) (again t)

furthest_extends : (u : TimeUnit) (s : FieldState) (ts : List Token) → Extends s (furthest u s ts).0
furthest_extends u s [] = extends_self s
furthest_extends u s (c ∷ []) = extends_self s
furthest_extends u s (c ∷ x ∷ ts) = extends_from u s c x ts (next_state u s c x) refl (λ t. furthest_extends u t ts)

-- ---- what the reader of a field answers

-- the field is read to its end, and its items denote the set
pub field_taken : (u : TimeUnit) (ts rest : List Token) (s : FieldState) (xs : FieldSet) → field_at u ts ≡ Some (s, rest)
    → Denotes u (state_items s) xs → TakesField u ts xs rest
field_taken u ts rest s xs h d =
    let l = read_longest u ts s rest h in
    record { front = l.0; items = state_items s; longest = l.1; denotes = d }

refuses : (u : TimeUnit) (ts : List Token) (f : FieldState × List Token) (r : Refusal) → field_at u ts ≡ Some f → IsFirstRefusal u (state_items f.0) r
    → RefusesField u ts (message u r)
refuses u ts f r h first =
    let l = read_longest u ts f.0 f.1 h in
    record { front = l.0; rest = f.1; items = state_items f.0; refusal = r; longest = l.1; first = first; told = refl }

-- an item is refused, and the field may go on after it
refused_inside : (u : TimeUnit) (ts rest : List Token) (done : List Item) (i : Item) (s : FieldState) (r : Refusal)
    → field_at u ts ≡ Some (furthest u s rest) → s.done ≡ done ++ i ∷ [] → All (IsUnrefused u) done → IsRefusedFor u i r
    → RefusesField u ts (message u r)
refused_inside u ts rest done i s r h e free bad =
    let f = furthest u s rest in
    let x = furthest_extends u s rest in
    let more = x.more ++ f.0.item ∷ [] in
    let items : state_items f.0 ≡ (done ++ i ∷ []) ++ more =
    ap (λ (zs : List Item). zs ++ f.0.item ∷ []) (x.is ∙ ap (λ (zs : List Item). zs ++ x.more) e) ∙ append_assoc (done ++ i ∷ []) x.more (f.0.item ∷ []) in
    refuses u ts f r h (record {
      before = done;
      item = i;
      after = more;
      cut = items ∙ append_assoc done (i ∷ []) more;
      unrefused = free;
      refused = bad;
    })

-- the last item is refused
refused_last : (u : TimeUnit) (ts rest : List Token) (s : FieldState) (r : Refusal) → field_at u ts ≡ Some (s, rest) → All (IsUnrefused u) s.done
    → IsRefusedFor u s.item r → RefusesField u ts (message u r)
refused_last u ts rest s r h free bad =
    refuses u ts (s, rest) r h (record { before = s.done; item = s.item; after = []; cut = refl; unrefused = free; refused = bad })

-- the first token of a field
pub unread_first : (u : TimeUnit) (t : Token) (ts : List Token) → lone_item u (symbol_of t) ≡ None → field_at u (t ∷ ts) ≡ None
unread_first u t ts h = rw h refl

pub read_first : (u : TimeUnit) (t : Token) (ts : List Token) (i : Item) → lone_item u (symbol_of t) ≡ Some i
    → field_at u (t ∷ ts) ≡ Some (furthest u (record { done = []; item = i; last = t }) ts)
read_first u t ts i h = rw h refl

-- ---- the fault of a refused item

-- a fault that tells an item tells what it was refused for
told_item : (u : TimeUnit) (P : Fault → Type 0) (i : Item) (f : Fault)
    → ((r : RefusedItem) → IsRefusedFor u i (refusal_view r.refusal) → definition_view r.definition ≡ u → P (Refused r)) → TellsItem u i f → P f
told_item u P i Syntax g h = absurd h
told_item u P i (Refused r) g h = g r h.1 h.0

unread_by : (u : TimeUnit) (ts : List Token) (r : RefusedItem) → definition_view r.definition ≡ u → RefusesField u ts (message u (refusal_view r.refusal))
    → IsUnread u ts (Refused r)
unread_by u ts r same h = subst (λ (v : TimeUnit). RefusesField u ts (message v (refusal_view r.refusal))) (sym same) h

pub unread_inside : (u : TimeUnit) (ts rest : List Token) (done : List Item) (i : Item) (s : FieldState) (f : Fault)
    → field_at u ts ≡ Some (furthest u s rest) → s.done ≡ done ++ i ∷ [] → All (IsUnrefused u) done → TellsItem u i f → IsUnread u ts f
unread_inside u ts rest done i s f h d free t =
    told_item u (IsUnread u ts) i f (λ r bad same. unread_by u ts r same
    (refused_inside u ts rest done i s (refusal_view r.refusal) h d free bad)) t

pub unread_last : (u : TimeUnit) (ts rest : List Token) (s : FieldState) (f : Fault) → field_at u ts ≡ Some (s, rest) → All (IsUnrefused u) s.done
    → TellsItem u s.item f → IsUnread u ts f
unread_last u ts rest s f h free t =
    told_item u (IsUnread u ts) s.item f (λ r bad same. unread_by u ts r same (refused_last u ts rest s (refusal_view r.refusal) h free bad)) t
