pub mod RightKinds
