-- A line says one reply.
use Rattle.std.proofs.Common.{arith, ◌≡◌, refl, sym, ap, ◌∙◌, ℕ, true, false, List, [], ◌∷◌}
use Rattle.std.specs.Prelude.{IsTrue}
use Rattle.auth_events.specs.declared.reply.Reply.{Reply}
use Rattle.auth_events.specs.declared.reply.Reply.TheVariants as replies
use Rattle.auth_events.specs.declared.request.Request.{Request}
use Rattle.authsrv_lines.specs.Reply.{IsReply, is_whole, reply_line, summary_line}
use Rattle.remote_port.specs.Answers.{IsAnswer, SaysReply, may_answer}

-- no two replies whose texts hold all of them have one text
abbrev pub OneReply : Type 0
OneReply = (first second : Reply) → IsReply first → IsReply second → IsTrue (is_whole first) → IsTrue (is_whole second) → reply_line first ≡ reply_line second → first ≡ second

abbrev head : List ℕ → ℕ
head [] = 0
head (b ∷ text) = b

-- no other reply's text begins as that of an Opened
other_begin : (reply : Reply) → IsTrue (is_whole reply) → head (reply_line reply) ≡ 97 → ⊥
unfolding summary_line
other_begin (replies.Opened sid) whole e = absurd (cc)
other_begin replies.Password whole e = omega (arith, e)
other_begin (replies.Challenge number word_seed) whole e = omega (arith, e)
other_begin replies.Ok whole e = omega (arith, e)
other_begin (replies.Shown summary) whole e = omega (arith, e)
other_begin (replies.Denied denial) whole e = omega (arith, e)

pub apart : (sid : ℕ) (reply : Reply) → IsTrue (is_whole reply) → reply_line reply ≡ reply_line (replies.Opened sid) → ⊥
apart sid reply whole e = other_begin reply whole (ap head e)

-- the reply, where its text holds all of it
both : (one : OneReply) (place : ℕ) (line : List ℕ) (first second : Reply) → IsTrue (is_whole first) → IsTrue (is_whole second) → SaysReply place line first → SaysReply place line second → first ≡ second
both one place line first second whole other a b = one first second a.is_reply b.is_reply whole other (a.text ∙ sym b.text)

says_by : (one : OneReply) (place : ℕ) (line : List ℕ) (sid : ℕ) (reply : Reply) → SaysReply place line (replies.Opened sid) → SaysReply place line reply → replies.Opened sid ≡ reply
says_by one place line sid (replies.Opened other) a b = ap replies.Opened (a.placed ∙ sym b.placed)
says_by one place line sid reply a b = absurd (apart sid reply refl (b.text ∙ sym a.text))

pub says_one : (one : OneReply) (place : ℕ) (line : List ℕ) (first second : Reply) → SaysReply place line first → SaysReply place line second → first ≡ second
says_one one place line (replies.Opened sid) second a b = says_by one place line sid second a b
says_one one place line first (replies.Opened sid) a b = sym (says_by one place line sid first b a)
says_one one place line first second a b = both one place line first second refl refl a b

pub answers_one : (one : OneReply) (request : Request) (place : ℕ) (line : List ℕ) (first second : Reply) → IsAnswer request place line first → IsAnswer request place line second → first ≡ second
answers_one one request place line first second a b = says_one one place line first second a.says b.says

-- a reply that may not answer the request is said, so none answers it
pub may_not : (one : OneReply) (request : Request) (place : ℕ) (line : List ℕ) (said : Reply) → SaysReply place line said → may_answer request said ≡ false → (reply : Reply) → ¬ (IsAnswer request place line reply)
may_not one request place line said says none reply is =
    let same : reply ≡ said = says_one one place line reply said is.says says in
    let never : may_answer request said ≡ true = ap (may_answer request) (sym same) ∙ is.may in
    absurd (cc)
