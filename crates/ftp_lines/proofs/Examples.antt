-- Texts, and what is read of them.
use Rattle.std.proofs.Common.{◌≡◌, [], ◌∷◌, ◌++◌, Some, None, refl}
use Rattle.std.specs.Prelude.{codes}
use Rattle.ftp_lines.specs.Command.{ftp_command_of}
use Rattle.ftp_lines.specs.Replies.{replies_of, replies_within}
use Rattle.ftp_lines.specs.Reply.{first_code, first_reply}
use Rattle.ftp_lines.specs.Six.{find_of, six_at, six_of}

-- the digits of the lines between don't end the reply
three_lines : first_reply (codes "230-one" ++ 10 ∷ codes "220 two" ++ 10 ∷ codes "230 three" ++ 10 ∷ codes "221") ≡ Some (26, 230)
unfolding first_reply
three_lines = refl

two_replies : replies_of (codes "331 a" ++ 13 ∷ 10 ∷ codes "230" ++ 10 ∷ codes "221 b")
    ≡ record { bytes = codes "331 a" ++ 13 ∷ 10 ∷ []; code = 331 } ∷ record { bytes = codes "230" ++ 10 ∷ []; code = 230 } ∷ []
unfolding replies_of replies_within first_reply
two_replies = refl

told_early : first_code (codes "421-") ≡ Some 421
unfolding first_code
told_early = refl

-- three digits tell a code at the line's end alone
told_late : first_code (codes "220" ++ 13 ∷ []) ≡ None
unfolding first_code
told_late = refl

told_at_end : first_code (codes "220" ++ 13 ∷ 10 ∷ []) ≡ Some 220
unfolding first_code
told_at_end = refl

-- the first line alone tells it
untold : first_code (codes "hello" ++ 10 ∷ codes "220 a" ++ 10 ∷ []) ≡ None
unfolding first_code
untold = refl

four_digits : first_code (codes "2200 a" ++ 10 ∷ []) ≡ None
unfolding first_code
four_digits = refl

command : ftp_command_of (codes "user  a b") ≡ Some (codes "USER", codes " a b")
command = refl

barred : ftp_command_of (codes "USER a" ++ 255 ∷ []) ≡ None
barred = refl

found : find_of (codes "227 ok (10,0,0,9,8,0)") ≡ Some (10 ∷ 0 ∷ 0 ∷ 9 ∷ [], 2048)
unfolding six_at
found = refl

unfound : find_of (codes "227 1,2,3") ≡ None
unfolding six_at
unfound = refl

too_great : six_of (codes "10,0,0,9,8,256") ≡ None
unfolding six_of
too_great = refl
