pub mod ValidLaws
