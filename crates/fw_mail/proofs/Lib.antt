pub mod MailersLemmas
