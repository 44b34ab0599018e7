pub mod PutEach
pub mod Surface
pub mod StoredHeights
pub mod StoreReady
pub mod SurfaceLaws
pub mod CarriedHeights
