-- Handing a message to the first of some mailers.
use Rattle.std.proofs.Common.{arith, ◌≡◌, ◌<◌, List, [], ◌∷◌, length, map, refl, subst, slice_index_or, slice_set}
use Rattle.fw_types.specs.declared.message.Message.{Message}
use Rattle.fw_mail.specs.declared.handed.Handed.{Handed}
use Rattle.fw_mail.specs.MailerView.{MailerView, Hands, HandsFirst}

-- the first mailer is handed the message, and the others stay where they stood
pub hands_first : {A : Type 0} (view : A → MailerView) (answer : Handed) (message : Message) (mailers : List A) (first after : A) →
    0 < length mailers → first ≡ slice_index_or mailers 0 first → Hands answer message (view first) (view after) →
    HandsFirst answer message (map view mailers) (map view (slice_set mailers 0 after))
hands_first view answer message [] first after some is h = absurd (omega arith)
hands_first view answer message (x ∷ others) first after some is h = record {
  first = view x;
  others = map view others;
  after = view after;
  was = refl;
  is = refl;
  hands = subst (λ m. Hands answer message (view m) (view after)) is h;
}
