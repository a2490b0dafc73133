pub mod MailerView
