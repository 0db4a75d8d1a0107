pub mod RenewLaws
