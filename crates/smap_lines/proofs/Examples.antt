-- Commands, paths and bodies, and what they are read as.
use Rattle.std.proofs.Common.{◌≡◌, true, false, [], ◌∷◌, ◌++◌, Some, None, Ok, Err, refl}
use Rattle.std.specs.Prelude.{codes}
use Rattle.smap_lines.specs.Body.{mail_body_of, cut}
use Rattle.smap_lines.specs.Command.{mail_command_of, bare, helo, mail}
use Rattle.smap_lines.specs.Path.{path_of}
use Rattle.smap_lines.specs.Verb.{asks_for_more, mail_verb_of}
use Rattle.smap_lines.specs.declared.path.PathFault.TheVariants.{Syntax, NotAllowed}
use Rattle.smap_lines.specs.declared.verb.Verb.TheVariants.{NotImplemented, Unknown}

first_body : mail_body_of (codes "Subject: x" ++ 13 ∷ 10 ∷ 13 ∷ 10 ∷ codes ".." ++ 13 ∷ 10 ∷ codes "a" ++ 10 ∷ codes "." ++ 10 ∷ codes "b" ++ 13 ∷ 10 ∷ codes "." ++ 13 ∷ 10 ∷ codes "QUIT")
    ≡ Some record { bytes = codes "Subject: x" ++ 13 ∷ 10 ∷ 13 ∷ 10 ∷ codes "." ++ 13 ∷ 10 ∷ codes "a" ++ 10 ∷ codes "." ++ 10 ∷ codes "b" ++ 13 ∷ 10 ∷ []; rest = codes "QUIT" }
unfolding cut
first_body = refl

-- CR behind a period doesn't end a body
not_ended : mail_body_of (46 ∷ 13 ∷ 13 ∷ 10 ∷ []) ≡ None
unfolding cut
not_ended = refl

in_any_case : mail_command_of (codes "mail From:<a@b>") ≡ mail (Some (codes "<a@b>"))
unfolding mail_verb_of
in_any_case = refl

by_a_tab : mail_command_of (codes "MAIL" ++ 9 ∷ codes "FROM:<a@b>") ≡ mail None
unfolding mail_verb_of
by_a_tab = refl

not_cut : mail_command_of (codes "MAILFROM:<a@b>") ≡ bare Unknown
unfolding mail_verb_of asks_for_more
not_cut = refl

without_a_word : mail_command_of (codes "HELO  ") ≡ helo []
unfolding mail_verb_of
without_a_word = refl

not_served : mail_command_of (codes "vrfy a") ≡ bare NotImplemented
unfolding mail_verb_of asks_for_more
not_served = refl

a_route : path_of false (codes "<@a:b@c>") ≡ Err NotAllowed
a_route = refl

no_brackets : path_of false (codes "a@b") ≡ Err Syntax
no_brackets = refl

empty : path_of true (codes " <> ") ≡ Ok []
empty = refl

not_empty : path_of false (codes "<>") ≡ Err Syntax
not_empty = refl
