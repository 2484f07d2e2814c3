pub mod Form
pub mod FormLaws
pub mod Reading
pub mod FirstBytes
pub mod Cases
pub mod ReadBack
