pub mod StoredRight
