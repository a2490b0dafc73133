-- Hellos, and what is read of them.
use Rattle.std.proofs.Common.{◌≡◌, [], ◌∷◌, ◌++◌, refl}
use Rattle.std.specs.Prelude.{codes, replicate}
use Rattle.fw_types.specs.declared.host.Host.TheVariants as hosts
use Rattle.rlogin_hello.specs.Hello.{NoHello, Unended, Whole, handed_on, hello_of, hello_text}
use Rattle.rlogin_hello.specs.ServerUser.{user_at}

with_rest : hello_of (hello_text (codes "mjr") (codes "root@relay.org") (codes "vt100/9600") ++ codes "ls")
    ≡ Whole (record { client = codes "mjr"; user = codes "root"; host = hosts.Name (codes "relay.org"); terminal = codes "vt100/9600"; rest = codes "ls" })
unfolding hello_of user_at
with_rest = refl

for_server : handed_on (hello_of (hello_text (codes "mjr") (codes "root@relay.org") (codes "vt100/9600"))) ≡ hello_text (codes "mjr") (codes "root") (codes "vt100/9600")
unfolding hello_of user_at
for_server = refl

last_at : hello_of (hello_text [] (codes "a@b@relay.org") []) ≡ Whole (record { client = []; user = codes "a@b"; host = hosts.Name (codes "relay.org"); terminal = []; rest = [] })
unfolding hello_of user_at
last_at = refl

no_host : hello_of (hello_text (codes "mjr") (codes "root") (codes "vt100/9600")) ≡ NoHello
unfolding hello_of user_at
no_host = refl

no_name : hello_of (hello_text (codes "mjr") (codes "@relay.org") (codes "vt100/9600")) ≡ NoHello
unfolding hello_of user_at
no_name = refl

with_port : hello_of (hello_text (codes "mjr") (codes "root@relay.org:513") (codes "vt100/9600")) ≡ NoHello
unfolding hello_of user_at
with_port = refl

-- the server's user is judged only when all texts have come
not_yet : hello_of (0 ∷ codes "mjr" ++ 0 ∷ codes "root" ++ 0 ∷ codes "vt100/9600") ≡ Unended
unfolding hello_of
not_yet = refl

first_byte : hello_of (codes "mjr") ≡ NoHello
unfolding hello_of
first_byte = refl

longest_text : hello_of (0 ∷ replicate 256 97) ≡ Unended
unfolding hello_of
longest_text = refl

too_long : hello_of (0 ∷ replicate 257 97) ≡ NoHello
unfolding hello_of
too_long = refl
