-- What the code says by tests of the service, said by the service.
use Rattle.std.proofs.Common.{◌≡◌, refl, sym, subst, ℕ, false, true}
use Rattle.std.specs.Prelude.{None}
use Rattle.fw_types.specs.declared.ending.Ending.{Ending}
use Rattle.fw_types.specs.declared.peer.Peer.{Peer}
use Rattle.gate_rules.specs.Reading.{RuleBook}
use Rattle.gate_rules.specs.declared.service.Service.{Service}
use Rattle.gate_rules.specs.declared.service.Service.TheVariants.{Authsrv, FtpGw, Netacl, PlugGw, Smap, TnGw}
use Rattle.gate_rules.specs.declared.verdict.Verdict.{Verdict}
use Rattle.gate_rules.specs.declared.verdict.Verdict.TheVariants.{Permit, Deny}
use Rattle.session_acts.specs.World.{Devices}
use Rattle.client_service.specs.Conn.{Permits, PermitsBy, Treats, TurnsAway, Unstored, Unthrown, Untouched}
use Rattle.client_service.specs.FtpService.{Serves, is_ftp}
use Rattle.client_service.specs.GateService.{LetsIn, is_gate}
use Rattle.client_service.specs.MailService.{MailsTo, is_mail}
use Rattle.client_service.specs.Options.{HasOptions}
use Rattle.client_service.specs.PlugService.{plug_in}

pub is_gateway : (service : Service) → is_gate service ≡ true → service ≡ TnGw
is_gateway TnGw is = refl
is_gateway (PlugGw port) is = absurd (cc)
is_gateway Authsrv is = absurd (cc)
is_gateway (Netacl label) is = absurd (cc)
is_gateway FtpGw is = absurd (cc)
is_gateway Smap is = absurd (cc)

pub is_ftp_gateway : (service : Service) → is_ftp service ≡ true → service ≡ FtpGw
is_ftp_gateway FtpGw is = refl
is_ftp_gateway (PlugGw port) is = absurd (cc)
is_ftp_gateway Authsrv is = absurd (cc)
is_ftp_gateway (Netacl label) is = absurd (cc)
is_ftp_gateway TnGw is = absurd (cc)
is_ftp_gateway Smap is = absurd (cc)

pub is_mailer : (service : Service) → is_mail service ≡ true → service ≡ Smap
is_mailer Smap is = refl
is_mailer (PlugGw port) is = absurd (cc)
is_mailer Authsrv is = absurd (cc)
is_mailer (Netacl label) is = absurd (cc)
is_mailer FtpGw is = absurd (cc)
is_mailer TnGw is = absurd (cc)

pub is_authsrv : (service : Service) (rules : RuleBook) (line : ℕ) → plug_in service ≡ None → is_gate service ≡ false → is_ftp service ≡ false → is_mail service ≡ false → HasOptions service rules line → service ≡ Authsrv
is_authsrv Authsrv rules line unplugged ungated unserved unmailed h = refl
is_authsrv (PlugGw port) rules line unplugged ungated unserved unmailed h = absurd (cc)
is_authsrv TnGw rules line unplugged ungated unserved unmailed h = absurd (cc)
is_authsrv Smap rules line unplugged ungated unserved unmailed h = absurd (cc)
is_authsrv (Netacl label) rules line unplugged ungated unserved unmailed h = absurd h
is_authsrv FtpGw rules line unplugged ungated unserved unmailed h = absurd (cc)

-- ---- what is left as it was

pub denied_untouched : {A : Type 0} (service : Service) (verdict : Verdict) (line : ℕ) (old new : A) → verdict ≡ Deny line → new ≡ old → Untouched service verdict old new
denied_untouched {A} service verdict line old new is same = subst (λ (v : Verdict). Untouched service v old new) (sym is) (by service)
  where
    by : (s : Service) → Untouched s (Deny line) old new
    by (PlugGw port) = same
    by Authsrv = same
    by (Netacl label) = same
    by TnGw = same
    by FtpGw = same
    by Smap = same

pub permitted_untouched : {A : Type 0} (service : Service) (verdict : Verdict) (line : ℕ) (old new : A) → verdict ≡ Permit line → Untouched service (Permit line) old new → Untouched service verdict old new
permitted_untouched {A} service verdict line old new is h = subst (λ (v : Verdict). Untouched service v old new) (sym is) h

-- the mail store
pub denied_unstored : {A : Type 0} (service : Service) (verdict : Verdict) (line : ℕ) (old new : A) → verdict ≡ Deny line → new ≡ old → Unstored service verdict old new
denied_unstored {A} service verdict line old new is same = subst (λ (v : Verdict). Unstored service v old new) (sym is) (by service)
  where
    by : (s : Service) → Unstored s (Deny line) old new
    by (PlugGw port) = same
    by Authsrv = same
    by (Netacl label) = same
    by TnGw = same
    by FtpGw = same
    by Smap = same

pub permitted_unstored : {A : Type 0} (service : Service) (verdict : Verdict) (line : ℕ) (old new : A) → verdict ≡ Permit line → Unstored service (Permit line) old new → Unstored service verdict old new
permitted_unstored {A} service verdict line old new is h = subst (λ (v : Verdict). Unstored service v old new) (sym is) h

-- whom it isn't lent
pub same_unstored : {A : Type 0} (service : Service) (line : ℕ) (old new : A) → new ≡ old → Unstored service (Permit line) old new
same_unstored Smap line old new same = tt
same_unstored (PlugGw port) line old new same = same
same_unstored Authsrv line old new same = same
same_unstored (Netacl label) line old new same = same
same_unstored TnGw line old new same = same
same_unstored FtpGw line old new same = same

-- and whom it is
pub mail_unstored : {A : Type 0} (service : Service) (line : ℕ) (old new : A) → is_mail service ≡ true → Unstored service (Permit line) old new
mail_unstored Smap line old new is = tt
mail_unstored (PlugGw port) line old new is = absurd (cc)
mail_unstored Authsrv line old new is = absurd (cc)
mail_unstored (Netacl label) line old new is = absurd (cc)
mail_unstored TnGw line old new is = absurd (cc)
mail_unstored FtpGw line old new is = absurd (cc)

-- what stays as it is is untouched
pub same_untouched : {A : Type 0} (service : Service) (line : ℕ) (old new : A) → new ≡ old → Untouched service (Permit line) old new
same_untouched (PlugGw port) line old new same = same
same_untouched Smap line old new same = same
same_untouched Authsrv line old new same = tt
same_untouched (Netacl label) line old new same = tt
same_untouched TnGw line old new same = tt
same_untouched FtpGw line old new same = tt

-- what is untouched isn't thrown, but for a client of a gateway that is as it was
pub unthrown_by : {A : Type 0} (service : Service) (verdict : Verdict) (old new : A) → is_gate service ≡ false → is_ftp service ≡ false → Untouched service verdict old new → Unthrown service verdict old new
unthrown_by TnGw verdict old new is unserved h = absurd (cc)
unthrown_by (PlugGw port) verdict old new is unserved h = h
unthrown_by Authsrv verdict old new is unserved h = h
unthrown_by (Netacl label) verdict old new is unserved h = h
unthrown_by FtpGw verdict old new is unserved h = absurd (cc)
unthrown_by Smap verdict old new is unserved h = h

pub same_unthrown : {A : Type 0} (service : Service) (verdict : Verdict) (line : ℕ) (old new : A) → verdict ≡ Deny line → new ≡ old → Unthrown service verdict old new
same_unthrown TnGw verdict line old new is same = same
same_unthrown (PlugGw port) verdict line old new is same = same
same_unthrown Authsrv verdict line old new is same = denied_untouched Authsrv verdict line old new is same
same_unthrown (Netacl label) verdict line old new is same = denied_untouched (Netacl label) verdict line old new is same
same_unthrown FtpGw verdict line old new is same = same
same_unthrown Smap verdict line old new is same = denied_untouched Smap verdict line old new is same

pub permitted_unthrown : {A : Type 0} (service : Service) (verdict : Verdict) (line : ℕ) (old new : A) → verdict ≡ Permit line → Unthrown service (Permit line) old new → Unthrown service verdict old new
permitted_unthrown {A} service verdict line old new is h = subst (λ (v : Verdict). Unthrown service v old new) (sym is) h

-- ---- what is done

module _ {Origin : Type 0} where
  pub permitted_gate : (service : Service) (line : ℕ) (rules : RuleBook) (peer : Peer) (ending : Ending) (old new : Devices Origin) → is_gate service ≡ true → LetsIn line rules peer ending old new → PermitsBy service line rules peer ending old new
  permitted_gate service line rules peer ending old new is h = subst (λ (s : Service). PermitsBy s line rules peer ending old new) (sym (is_gateway service is)) h

  pub permitted_ftp : (service : Service) (line : ℕ) (rules : RuleBook) (peer : Peer) (ending : Ending) (old new : Devices Origin) → is_ftp service ≡ true → Serves line rules peer ending old new → PermitsBy service line rules peer ending old new
  permitted_ftp service line rules peer ending old new is h = subst (λ (s : Service). PermitsBy s line rules peer ending old new) (sym (is_ftp_gateway service is)) h

  pub permitted_mail : (service : Service) (line : ℕ) (rules : RuleBook) (peer : Peer) (ending : Ending) (old new : Devices Origin) → is_mail service ≡ true → MailsTo line rules peer ending old new → PermitsBy service line rules peer ending old new
  permitted_mail service line rules peer ending old new is h = subst (λ (s : Service). PermitsBy s line rules peer ending old new) (sym (is_mailer service is)) h

  pub permitted_alone : (service : Service) (line : ℕ) (rules : RuleBook) (peer : Peer) (ending : Ending) (old new : Devices Origin) → service ≡ Authsrv → Permits line rules peer ending old new → PermitsBy service line rules peer ending old new
  permitted_alone service line rules peer ending old new is h = subst (λ (s : Service). PermitsBy s line rules peer ending old new) (sym is) h

  pub treated_deny : (verdict : Verdict) (line : ℕ) (service : Service) (rules : RuleBook) (peer : Peer) (ending : Ending) (old new : Devices Origin) → verdict ≡ Deny line → TurnsAway line service peer ending old new → Treats verdict service rules peer ending old new
  treated_deny verdict line service rules peer ending old new is h = subst (λ (v : Verdict). Treats v service rules peer ending old new) (sym is) h

  pub treated_permit : (verdict : Verdict) (line : ℕ) (service : Service) (rules : RuleBook) (peer : Peer) (ending : Ending) (old new : Devices Origin) → verdict ≡ Permit line → PermitsBy service line rules peer ending old new → Treats verdict service rules peer ending old new
  treated_permit verdict line service rules peer ending old new is h = subst (λ (v : Verdict). Treats v service rules peer ending old new) (sym is) h
