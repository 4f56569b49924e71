pub mod RepliesLemmas
