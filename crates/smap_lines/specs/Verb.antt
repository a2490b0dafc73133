-- The verbs of mail (RFC 821, section 4.1), in any case.
use Rattle.std.specs.Prelude.{ℕ, Bool, ◌||◌, List, codes, if◌then◌else◌}
use Rattle.std.specs.Str.{str_eq_ignore_ascii_case}
use Rattle.smap_lines.specs.declared.verb.Verb.{Verb}
use Rattle.smap_lines.specs.declared.verb.Verb.TheVariants.{Helo, Mail, Rcpt, Data, Rset, Noop, Quit, Help, NotImplemented, Unknown}

abbrev pub is : List ℕ → List ℕ → Bool
is word verb = str_eq_ignore_ascii_case word verb

-- a verb of the standard that isn't served
unfoldable pub asks_for_more : List ℕ → Bool
asks_for_more word =
    is word (codes "VRFY") || is word (codes "EXPN") || is word (codes "SEND")
    || is word (codes "SOML") || is word (codes "SAML") || is word (codes "TURN")

unfoldable pub mail_verb_of : List ℕ → Verb
mail_verb_of word =
    if is word (codes "HELO") then Helo
    else if is word (codes "MAIL") then Mail
    else if is word (codes "RCPT") then Rcpt
    else if is word (codes "DATA") then Data
    else if is word (codes "RSET") then Rset
    else if is word (codes "NOOP") then Noop
    else if is word (codes "QUIT") then Quit
    else if is word (codes "HELP") then Help
    else if asks_for_more word then NotImplemented
    else Unknown
