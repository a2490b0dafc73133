-- Steps over a whole text, from a new reader on, end the replies of the text.
use Rattle.std.proofs.Common.{◌≡◌, ℕ, zero, suc, ◌+◌, ◌<◌, ◌≤◌, List, [], ◌∷◌, ◌++◌, length, take, drop, map, refl, sym, ap, ◌∙◌, arith, append_assoc, append-nil, length-append}
use Rattle.std.specs.Prelude.{Option, Some, None}
use Rattle.std.proofs.lemmas.List.{drop_at, length-drop, take_at}
use Rattle.ftp_lines.specs.Reply.{first_reply}
use Rattle.ftp_lines.specs.Replies.{ReplyText, replies_from, replies_of, replies_within}
use Rattle.ftp_lines.specs.Feeding.{AllFed, ReplyFed, ended_by, ended_replies}
use Rattle.ftp_lines.specs.ReplyReaderView.{IsReplyStep, ReplyReaderView, fed_after}
use Rattle.ftp_lines.specs.declared.reply_step.ReplyStep.{ReplyStep}
use Rattle.ftp_lines.specs.declared.reply_step.ReplyStep.TheVariants.{More, Line, Last}
use Rattle.ftp_lines.proofs.ReplyLemmas.{first_reply-empty}
use Rattle.ftp_lines.proofs.FirstLemmas.{is_first, stays}

abbrev text_reply : List ℕ → ℕ → ReplyText
text_reply bytes code = record { bytes = bytes; code = code }

none_behind : (n : ℕ) (text : List ℕ) → first_reply text ≡ None → replies_within n text ≡ []
none_behind zero text none = unfold replies_within in refl
none_behind (suc n) text none = unfold replies_within in ap (replies_from (replies_within n) text) none

within_by : (long n : ℕ) (text : List ℕ) → long ≡ suc n
    → replies_within long text ≡ replies_from (replies_within n) text (first_reply text)
within_by long n text is = unfold replies_within in ap (λ k. replies_within k text) is

-- a reply has bytes
some_bytes : (text : List ℕ) (count code : ℕ) → first_reply text ≡ Some (count, code) → 0 < count
some_bytes text zero code is =
    let first = is_first text zero code is in
    absurd (cc (first.alone, first_reply-empty))
some_bytes text (suc count) code is = omega arith

no_bytes : (text : List ℕ) → length text ≤ 0 → first_reply text ≡ None
no_bytes [] few = first_reply-empty
no_bytes (b ∷ text) few = absurd (omega (arith, few))

same_from : (n m : ℕ) (text : List ℕ) (o : Option (ℕ × ℕ)) → first_reply text ≡ o → length text ≤ suc n
    → length text ≤ suc m
    → ((rest : List ℕ) → length rest ≤ n → length rest ≤ m → replies_within n rest ≡ replies_within m rest)
    → replies_from (replies_within n) text o ≡ replies_from (replies_within m) text o
same_from n m text None is few less more = refl
same_from n m text (Some reply) is few less more =
    let some = some_bytes text reply.0 reply.1 is in
    let long = length-drop reply.0 text in
    ap (λ rs. text_reply (take reply.0 text) reply.1 ∷ rs)
    (more (drop reply.0 text) (omega (arith, some, long, few)) (omega (arith, some, long, less)))

-- so many replies as bytes are enough
enough : (n m : ℕ) (text : List ℕ) → length text ≤ n → length text ≤ m → replies_within n text ≡ replies_within m text
enough zero m text few less =
    let none = no_bytes text few in
    none_behind zero text none ∙ sym (none_behind m text none)
enough (suc n) zero text few less =
    let none = no_bytes text less in
    none_behind (suc n) text none ∙ sym (none_behind zero text none)
enough (suc n) (suc m) text few less =
    within_by (suc n) n text refl
    ∙ same_from n m text (first_reply text) refl few less (λ rest a b. enough n m rest a b)
    ∙ sym (within_by (suc m) m text refl)

-- the first reply, and those of what follows it
reply_and : (fed back : List ℕ) (byte code : ℕ) → first_reply (fed ++ byte ∷ []) ≡ Some (length fed + 1, code)
    → replies_of (fed ++ byte ∷ back) ≡ text_reply (fed ++ byte ∷ []) code ∷ replies_of back
unfolding replies_of
reply_and fed back byte code is =
    let front = fed ++ byte ∷ [] in
    let count : length fed + 1 ≡ length front = sym (length-append fed (byte ∷ [])) in
    let whole : front ++ back ≡ fed ++ byte ∷ back = append_assoc fed (byte ∷ []) back in
    let long = length-append fed (byte ∷ back) in
    let first : first_reply (fed ++ byte ∷ back) ≡ Some (length fed + 1, code) =
    ap first_reply (sym whole) ∙ stays front back (length fed + 1) code is in
    let taken : take (length fed + 1) (fed ++ byte ∷ back) ≡ front =
    ap (take (length fed + 1)) (sym whole) ∙ take_at front back (length fed + 1) (sym count) in
    let dropped : drop (length fed + 1) (fed ++ byte ∷ back) ≡ back =
    ap (drop (length fed + 1)) (sym whole) ∙ drop_at front back (length fed + 1) (sym count) in
    within_by (length (fed ++ byte ∷ back)) (length fed + length back) (fed ++ byte ∷ back) (omega (arith, long))
    ∙ ap (replies_from (replies_within (length fed + length back)) (fed ++ byte ∷ back)) first
    ∙ ap (λ bytes. text_reply bytes code ∷ replies_within (length fed + length back)
    (drop (length fed + 1) (fed ++ byte ∷ back))) taken
    ∙ ap (λ rest. text_reply front code ∷ replies_within (length fed + length back) rest) dropped
    ∙ ap (λ rs. text_reply front code ∷ rs)
    (enough (length fed + length back) (length back) back (omega arith) (omega arith))

abbrev bytes_of : List ReplyFed → List ℕ
bytes_of steps = map (λ (step : ReplyFed). step.byte) steps

-- one step more, by what it answers
on : (answer : ReplyStep) (fed now : List ℕ) (byte : ℕ) (steps : List ReplyFed)
    → IsReplyStep answer (first_reply (fed ++ byte ∷ [])) (length fed + 1) → now ≡ fed_after answer (fed ++ byte ∷ [])
    → (first_reply now ≡ None → ended_replies now steps ≡ replies_of (now ++ bytes_of steps))
    → ended_by answer (fed ++ byte ∷ []) ++ ended_replies (fed_after answer (fed ++ byte ∷ [])) steps
    ≡ replies_of (fed ++ byte ∷ bytes_of steps)
on More fed now byte steps reply is more =
    ap (λ f. ended_replies f steps) (sym is) ∙ more (ap first_reply is ∙ reply)
    ∙ ap (λ f. replies_of (f ++ bytes_of steps)) is ∙ ap replies_of (append_assoc fed (byte ∷ []) (bytes_of steps))
on Line fed now byte steps reply is more =
    ap (λ f. ended_replies f steps) (sym is) ∙ more (ap first_reply is ∙ reply)
    ∙ ap (λ f. replies_of (f ++ bytes_of steps)) is ∙ ap replies_of (append_assoc fed (byte ∷ []) (bytes_of steps))
on (Last code) fed now byte steps reply is more =
    let rest : ended_replies [] steps ≡ replies_of (bytes_of steps) =
    ap (λ f. ended_replies f steps) (sym is) ∙ more (ap first_reply is ∙ first_reply-empty)
    ∙ ap (λ f. replies_of (f ++ bytes_of steps)) is in
    ap (λ rs. text_reply (fed ++ byte ∷ []) code ∷ rs) rest ∙ sym (reply_and fed (bytes_of steps) byte code reply)

run : (before : ReplyReaderView) (steps : List ReplyFed) → first_reply before.fed ≡ None → AllFed before steps
    → ended_replies before.fed steps ≡ replies_of (before.fed ++ bytes_of steps)
run before [] none all =
    unfold replies_of in
    sym (ap (λ text. replies_within (length text) text) (append-nil before.fed)
    ∙ none_behind (length before.fed) before.fed none)
run before (step ∷ steps) none all =
    on step.answer before.fed step.after.fed step.byte steps all.0.reply all.0.fed
    (λ open_still. run step.after steps open_still all.1)

pub fed_whole : (steps : List ReplyFed) → AllFed record { fed = []; heard = None } steps
    → ended_replies [] steps ≡ replies_of (bytes_of steps)
fed_whole steps all = run record { fed = []; heard = None } steps first_reply-empty all
